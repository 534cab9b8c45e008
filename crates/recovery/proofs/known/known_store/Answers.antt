use Rattle.std.proofs.Common.{◌≡◌, ◌+◌, [], List, Option, Result, Ok, Err, length, sym, ap, subst, ◌∙◌, arith, slice_get}
use Rattle.store_model.specs.Laid.{LaidFile}
use Rattle.store_model.specs.Found.{laid}
use Rattle.store_check.specs.declared.chain.FoundFile.{FoundFile}
use Rattle.store_check.specs.declared.checking.Checked.{Checked}
use Rattle.store_check.specs.Checked.{Answers, LikeTable}
use Rattle.store_check.specs.Files.{chain_of, chains_of}
use Rattle.store_check.specs.Counts.{parts_in, kept_in}
use Rattle.store_check.specs.Marks.{Marks}
use Rattle.store_check.specs.Since.{is_past}
use Rattle.block_map.specs.States.{free_count}
use Rattle.store_check.specs.declared.refused.WalkRefused.{WalkRefused}
use Rattle.store_check.specs.declared.refused.WalkRefused.TheVariants.{ReadFault as Unchecked}
use Rattle.recovery.specs.declared.refused.OpenRefused.{OpenRefused}
use Rattle.recovery.specs.declared.refused.OpenRefused.TheVariants.{ReadFault}
use Rattle.recovery.specs.Known.{Knows, heads_from}
use Rattle.recovery.proofs.Heads.{map_long}
use Rattle.recovery.proofs.Places.{laid_fits}
use Rattle.recovery.proofs.KnownLaws.{chain_low_block, check_read, heads_told, refused_knows, unread_so}
use Rattle.recovery.proofs.Mends.{err_is}
use Rattle.recovery.proofs.known.known_store.Goals as goal

pub returns-in-Err-heads_in-clause-answer : goal.returns-in-Err-heads_in-clause-answer
returns-in-Err-heads_in-clause-answer g c = λ readable.
    let b = g.B.Blocks in
    let outcome = laid (b.content c.args.store) (b.size c.args.store) [] in
    let past = is_past g.B.Blocks c.check-store.result.0 in
    let a : Answers past (Ok c.in-Ok.checked) outcome = subst (λ (r : Result Checked WalkRefused). Answers past r outcome) c.in-Ok.is (c.check-store.ensures.answer readable.0 readable.1) in
    let few = laid_fits (b.content c.args.store) (b.size c.args.store) a.0 a.1 a.2 in
    let size = c.check-store.ensures.only.size_same in
    let count = c.blocks-blocks.ensures in
    let chains : c.as_slice.result.now ≡ chains_of a.0.files = c.as_slice.ensures.value ∙ a.3.heads in
    subst (λ (e : OpenRefused). Knows (Err e) outcome)
    (sym
    (c.in-Err-heads_in.ensures.fits
    (λ k kept is.
    let low = chain_low_block (b.content c.args.store) (b.size c.args.store) a.0 a.1 a.2 k kept (ap (λ (l : List (Option FoundFile)). slice_get l k) (sym chains) ∙ is) in
    Prim.omega (arith, low, few, size, count))))
    tt

pub returns-in-Ok-heads_in-clause-answer : goal.returns-in-Ok-heads_in-clause-answer
returns-in-Ok-heads_in-clause-answer g c = λ readable.
    let b = g.B.Blocks in
    let outcome = laid (b.content c.args.store) (b.size c.args.store) [] in
    let past = is_past g.B.Blocks c.check-store.result.0 in
    let a : Answers past (Ok c.in-Ok.checked) outcome = subst (λ (r : Result Checked WalkRefused). Answers past r outcome) c.in-Ok.is (c.check-store.ensures.answer readable.0 readable.1) in
    let k = c.known_of.ensures in
    let chains : c.as_slice.result.now ≡ chains_of a.0.files = c.as_slice.ensures.value ∙ a.3.heads in
    let entries : length c.entries-objects.result.now ≡ length a.0.files =
    ap (λ l. length l) (c.entries-objects.ensures.value ∙ a.3.table.entries) ∙ map_long (λ (file : LaidFile). file.entry) a.0.files in
    let long : length c.as_slice.result.now ≡ length a.0.files = ap (λ (l : List (Option FoundFile)). length l) chains ∙ map_long (λ (file : LaidFile). chain_of file.versions) a.0.files in (
      a.0,
      a.1,
      a.2,
      record {
        table = subst (λ t. LikeTable t a.0) (sym k.table) a.3.table;
        size = ap (λ m. length m) k.map ∙ a.3.size;
        marks = subst (λ m. Marks a.1 m) (sym k.map) a.3.map;
        chains = ap (λ v. v.items) k.chains ∙ a.3.heads;
        free = ap (λ m. free_count m + 1 + parts_in a.0.root + kept_in a.0.files) k.map ∙ a.3.free;
        heads = ap (λ v. v.items) k.heads ∙ c.in-Ok-heads_in.ensures.value (entries ∙ sym long) ∙ ap (λ l. heads_from l) chains ∙ heads_told a.0.files;
      },
    )

-- what the check says of its answer, where it was no store
pub returns-in-Err-clause-answer : goal.returns-in-Err-clause-answer
returns-in-Err-clause-answer g c = λ readable.
    let past = is_past g.B.Blocks c.check-store.result.0 in
    let outcome = laid (g.B.Blocks.content c.args.store) (g.B.Blocks.size c.args.store) [] in
    subst (λ (e : OpenRefused). Knows (Err e) outcome) (sym c.from.ensures)
    (refused_knows past c.in-Err.refused outcome
    (subst (λ (r : Result Checked WalkRefused). Answers past r outcome) c.in-Err.is (c.check-store.ensures.answer readable.0 readable.1)))

pub returns-in-Err-clause-unread : goal.returns-in-Err-clause-unread
returns-in-Err-clause-unread g c = λ h is.
    let b = g.B.Blocks in
    let old = c.args.store in
    let new = c.check-store.result.0 in
    let named : c.in-Err.refused ≡ Unchecked h = check_read c.in-Err.refused h (sym c.from.ensures ∙ err_is c.from.result (ReadFault h) is) in
    let u = c.check-store.ensures.unread h (c.in-Err.is ∙ ap Err named) in
    unread_so b old new h u.0 u.1
    (λ readable past. subst (λ (r : Result Checked WalkRefused). Answers (is_past b new) r (laid (b.content old) (b.size old) []))
    (c.in-Err.is ∙ ap Err named) (c.check-store.ensures.answer readable.0 readable.1) past)
