use Rattle.std.proofs.Common.{sym, subst, ap, ◌∙◌, ℕ}
use Rattle.page_codec.specs.Values.{VersionValue}
use Rattle.page_codec.specs.declared.why.Why.TheVariants.{Serial}
use Rattle.session.specs.Reads.{IsVersionOf, ReadCall}
use Rattle.session.proofs.BlockLaws.{BlockLaws, block_laws}
use Rattle.session.proofs.NextVersions.{base_failed, find_named, none_named, root_here}
use Rattle.session.proofs.course.Course.find_next.Given as given
use Rattle.session.proofs.course.Course.find_next.Goals as goal

laws : (g : given.Over) → g.B.Blocks.tells → BlockLaws g.B.Blocks
laws g = block_laws g.B.Blocks g.met.B.Blocks.clock g.met.B.Blocks.settled_left g.met.B.Blocks.whole g.met.B.Blocks.bytes

pub returns-in-Some : goal.returns-in-Some
returns-in-Some g c = λ script ready.
    let s = c.args.self.now in
    let old = c.args.common.now in
    let e = c.root-base.ensures.value in
    let read = subst (λ (n : ℕ). ReadCall g.B.Blocks IsVersionOf old c.read_version.new.self n c.read_version.result) (root_here s _ c.root-base.result c.requires.draft e) c.read_version.ensures in
    find_named g.B.Blocks script old c.read_version.new.self s c.read_version.result (laws g) ready read c.in-Ok.version c.in-Ok.is c.requires.draft c.in-Some.next
    (ap (λ (v : VersionValue). v.commit) (sym c.version.view_is) ∙ c.in-Some.is) c.name.new.self c.name.result c.name.ensures.named c.name.ensures.again

pub returns-in-None : goal.returns-in-None
returns-in-None g c = λ script ready.
    let s = c.args.self.now in
    let old = c.args.common.now in
    let e = c.root-base.ensures.value in
    let read = subst (λ (n : ℕ). ReadCall g.B.Blocks IsVersionOf old c.read_version.new.self n c.read_version.result) (root_here s _ c.root-base.result c.requires.draft e) c.read_version.ensures in
    none_named g.B.Blocks script old c.read_version.new.self s c.read_version.result (laws g) ready read c.in-Ok.version c.in-Ok.is
    (ap (λ (v : VersionValue). v.commit) (sym c.version.view_is) ∙ c.in-None.is) c.root-base.result Serial

pub returns-in-Err : goal.returns-in-Err
returns-in-Err g c = λ script ready.
    let s = c.args.self.now in
    let old = c.args.common.now in
    let e = c.root-base.ensures.value in
    let read = subst (λ (n : ℕ). ReadCall g.B.Blocks IsVersionOf old c.read_version.new.self n c.read_version.result) (root_here s _ c.root-base.result c.requires.draft e) c.read_version.ensures in
    base_failed g.B.Blocks script old c.read_version.new.self s c.read_version.result (laws g) ready read c.in-Err.fault c.in-Err.is
