use Rattle.std.proofs.Common.{ℕ, Err, Vec, Global, length, ap, subst, ◌∙◌, arith}
use Rattle.std.specs.List.{All}
use Rattle.std.proofs.lemmas.List.{length-map}
use Rattle.std.proofs.lemmas.Result.{err_from_is_err_and}
use Rattle.session.specs.Built.{AreBuilt}
use Rattle.playing.specs.Parsing.{AreSaid, IsUnbuiltFor, IsUnparsed}
use Rattle.playing.specs.Taking.{bytes_of}
use Rattle.playing.specs.Unread.{IsUnread}
use Rattle.playing.proofs.Refusing.{of_cause}
use Rattle.playing.proofs.Scripting.{as_many_scripts, as_many_texts, read_all, unread_bad, unread_built}
use Rattle.playing.proofs.scripts.read_scripts.Goals as goal

pub parse_texts-requires : goal.parse_texts-requires
parse_texts-requires g c =
    let held = c.in_ok-texts.ensures.held in
    let texts = c.in_ok-texts.texts.items in
    let many = as_many_texts g.S.Source c.args.sources.now c.read_texts.new.sources held.0
    (bytes_of texts) held.1 held.2 c.in_ok-texts.ensures.kept in
    let bytes = length-map texts (λ (t : Vec ℕ Global). t.items) in
    let same = ap (λ (ts : _). length ts) c.deref.ensures.value in
    let few = c.requires.few in
    omega (arith, many, bytes, same)

pub returns-in_err-scripts-clause-unread : goal.returns-in_err-scripts-clause-unread
returns-in_err-scripts-clause-unread g c =
    let held = c.in_ok-texts.ensures.held in
    let r = c.from_residual-in_err-scripts.result in
    let p = err_from_is_err_and r c.from_residual-in_err-scripts.ensures.1 in
    let cause = c.in_err-scripts.field-0.0 in
    of_cause r cause (IsUnread g.S.Source c.args.sources.now c.read_texts.new.sources)
    (p.1 ∙ ap Err p.2)
    (unread_bad g.S.Source c.args.sources.now c.read_texts.new.sources held.0
    (bytes_of c.in_ok-texts.texts.items) held.1 held.2 c.in_ok-texts.ensures.kept cause
    (subst (λ ts. IsUnparsed (bytes_of ts) cause) c.deref.ensures.value c.in_err-scripts.ensures))

pub check_built-requires : goal.check_built-requires
check_built-requires g c =
    let held = c.in_ok-texts.ensures.held in
    let many = as_many_scripts g.S.Source c.args.sources.now c.read_texts.new.sources held.0
    (bytes_of c.in_ok-texts.texts.items) held.1 held.2 c.in_ok-texts.ensures.kept
    c.in_ok-scripts.scripts.items
    (subst (λ ts. AreSaid (bytes_of ts) c.in_ok-scripts.scripts.items) c.deref.ensures.value
    c.in_ok-scripts.ensures) in
    let same = ap (λ (ts : _). length ts) c.deref-2.ensures.value in
    let few = c.requires.few in
    omega (arith, many, same)

pub returns-in_err-check_built-clause-unread : goal.returns-in_err-check_built-clause-unread
returns-in_err-check_built-clause-unread g c =
    let held = c.in_ok-texts.ensures.held in
    let r = c.from_residual-in_err-check_built.result in
    let p = err_from_is_err_and r c.from_residual-in_err-check_built.ensures.1 in
    let cause = c.in_err-check_built.field-0.0 in
    of_cause r cause (IsUnread g.S.Source c.args.sources.now c.read_texts.new.sources)
    (p.1 ∙ ap Err p.2)
    (unread_built g.S.Source c.args.sources.now c.read_texts.new.sources held.0
    (bytes_of c.in_ok-texts.texts.items) held.1 held.2 c.in_ok-texts.ensures.kept
    c.in_ok-scripts.scripts.items
    (subst (λ ts. AreSaid (bytes_of ts) c.in_ok-scripts.scripts.items) c.deref.ensures.value
    c.in_ok-scripts.ensures)
    cause
    (subst (λ ss. IsUnbuiltFor ss cause) c.deref-2.ensures.value c.in_err-check_built.ensures))

pub returns-clause-read : goal.returns-clause-read
returns-clause-read g c =
    let held = c.in_ok-texts.ensures.held in
    read_all g.S.Source c.args.sources.now c.read_texts.new.sources held.0
    (bytes_of c.in_ok-texts.texts.items) held.1 held.2 c.in_ok-texts.ensures.kept
    c.in_ok-scripts.scripts.items
    (subst (λ ts. AreSaid (bytes_of ts) c.in_ok-scripts.scripts.items) c.deref.ensures.value
    c.in_ok-scripts.ensures)
    (subst (All AreBuilt) c.deref-2.ensures.value c.in_ok-check_built.ensures)
