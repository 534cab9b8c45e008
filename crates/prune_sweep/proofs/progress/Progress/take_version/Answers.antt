use Rattle.std.proofs.Common.{◌≡◌, ◌<◌, ℕ, List, ◌++◌, ◌&&◌, not, true, false, cond, length, Option, None, refl, sym, ap, subst, ◌∙◌}
use Rattle.std.specs.Prelude.{is_some, option_to_list}
use Rattle.std.specs.Option.{is_none}
use Rattle.std.proofs.lemmas.Bool.{not-true, not-false, and_parts}
use Rattle.page_codec.specs.Values.{ReferenceValue}
use Rattle.prune_sweep.specs.declared.mark.Mark.{Mark}
use Rattle.prune_sweep.specs.declared.stage.Stage.{Stage}
use Rattle.prune_sweep.specs.Marks.{mark_at, reads_left, left_of}
use Rattle.prune_sweep.specs.Slots.{new_blocks, are_within, is_within}
use Rattle.prune_sweep.specs.Progress.{begun, following_at, is_reached, next_version}
use Rattle.prune_sweep.specs.Naming.{Stays}
use Rattle.prune_sweep.specs.Causes.{has_seen}
use Rattle.prune_sweep.specs.Reading.{VersionTaken}
use Rattle.prune_sweep.proofs.Telling.{version_told, version_seen}
use Rattle.prune_sweep.proofs.ReadSteps.{version_is_taken, has_seen-next, has_seen-more, left-read, read-less}
use Rattle.prune_sweep.proofs.SlotSteps.{Stays-then}
use Rattle.prune_sweep.proofs.progress.Progress.take_version.Goals as goal

pub returns-then-not-name_new-clause-causes : goal.returns-then-not-name_new-clause-causes
returns-then-not-name_new-clause-causes c =
    let old : List Mark = c.args.self.now.marks in
    let next : Option ℕ = next_version c.args.self.now.upto c.args.version.now in
    let refs_is : c.args.version.now.page.refs ≡ c.slots_of-refs.result.now = sym c.slots_of-refs.ensures in
    let stays_is : is_reached c.args.self.now.upto c.args.version.now.serial ≡ c.is_reached-stays.result = sym c.is_reached-stays.ensures in
    let f_is : following_at (begun c.args.self.now.stage) c.is_reached-stays.result ≡ c.following_at-following.result =
    ap (λ (s : Stage). following_at s c.is_reached-stays.result) (sym c.begun-stage.ensures) ∙ sym c.following_at-following.ensures in
    let next_is : next ≡ c.next_version-next.result = ap (λ b. cond b None c.args.version.now.commit) stays_is ∙ sym c.next_version-next.ensures in
    let test : (c.are_within.result && c.is_below.result) ≡ true = c.if-not-are_within-is_below.false in
    let parts : (c.are_within.result ≡ true) × (c.is_below.result ≡ true) = and_parts _ _ test in
    let within : are_within c.following_at-following.result (length old) c.args.version.now.page.refs ≡ true =
    ap (are_within c.following_at-following.result (length old)) refs_is
    ∙ ap (λ n. are_within c.following_at-following.result n c.slots_of-refs.result.now) (sym c.blocks-blocks.ensures.value) ∙ sym c.are_within.ensures ∙ parts.0 in
    let next_within : is_within (length old) next ≡ true =
    ap (is_within (length old)) next_is ∙ ap (λ n. is_within n c.next_version-next.result) (sym c.blocks-blocks.ensures.value) ∙ sym c.is_below.ensures ∙ parts.1 in
    let seen : has_seen old (new_blocks c.following_at-following.result c.args.version.now.page.refs ++ option_to_list next) ≡ true =
    ap (λ (r : List ReferenceValue). has_seen old (new_blocks c.following_at-following.result r ++ option_to_list next)) refs_is
    ∙ has_seen-more old (new_blocks c.following_at-following.result c.slots_of-refs.result.now) (option_to_list next) (not-false _ (sym c.if-not-name_new.ensures.new)) in
    version_seen old c.args.self.now.upto (begun c.args.self.now.stage) c.args.version.now c.is_reached-stays.result c.following_at-following.result next
    stays_is f_is refl within next_within seen

pub returns-then-not-name_next-clause-causes : goal.returns-then-not-name_next-clause-causes
returns-then-not-name_next-clause-causes c =
    let old : List Mark = c.args.self.now.marks in
    let next : Option ℕ = next_version c.args.self.now.upto c.args.version.now in
    let refs_is : c.args.version.now.page.refs ≡ c.slots_of-refs.result.now = sym c.slots_of-refs.ensures in
    let stays_is : is_reached c.args.self.now.upto c.args.version.now.serial ≡ c.is_reached-stays.result = sym c.is_reached-stays.ensures in
    let f_is : following_at (begun c.args.self.now.stage) c.is_reached-stays.result ≡ c.following_at-following.result =
    ap (λ (s : Stage). following_at s c.is_reached-stays.result) (sym c.begun-stage.ensures) ∙ sym c.following_at-following.ensures in
    let next_is : next ≡ c.next_version-next.result = ap (λ b. cond b None c.args.version.now.commit) stays_is ∙ sym c.next_version-next.ensures in
    let test : (c.are_within.result && c.is_below.result) ≡ true = c.if-not-are_within-is_below.false in
    let parts : (c.are_within.result ≡ true) × (c.is_below.result ≡ true) = and_parts _ _ test in
    let within : are_within c.following_at-following.result (length old) c.args.version.now.page.refs ≡ true =
    ap (are_within c.following_at-following.result (length old)) refs_is
    ∙ ap (λ n. are_within c.following_at-following.result n c.slots_of-refs.result.now) (sym c.blocks-blocks.ensures.value) ∙ sym c.are_within.ensures ∙ parts.0 in
    let next_within : is_within (length old) next ≡ true =
    ap (is_within (length old)) next_is ∙ ap (λ n. is_within n c.next_version-next.result) (sym c.blocks-blocks.ensures.value) ∙ sym c.is_below.ensures ∙ parts.1 in
    let linked_is : next ≡ c.next_version-linked.result = ap (λ b. cond b None c.args.version.now.commit) stays_is ∙ sym c.next_version-linked.ensures in
    let seen : has_seen old (new_blocks c.following_at-following.result c.args.version.now.page.refs ++ option_to_list next) ≡ true =
    ap (λ (r : List ReferenceValue). has_seen old (new_blocks c.following_at-following.result r ++ option_to_list next)) refs_is
    ∙ ap (λ o. has_seen old (new_blocks c.following_at-following.result c.slots_of-refs.result.now ++ option_to_list o)) linked_is
    ∙ has_seen-next old c.name_new.new.marks 1 (new_blocks c.following_at-following.result c.slots_of-refs.result.now) c.next_version-linked.result
    (c.if-not-name_new.ensures.marks refl) (not-true _ (sym c.if-not-name_new.ensures.new))
    ∙ not-false _ (sym c.if-not-name_next.ensures.new) in
    version_seen old c.args.self.now.upto (begun c.args.self.now.stage) c.args.version.now c.is_reached-stays.result c.following_at-following.result next
    stays_is f_is refl within next_within seen

pub returns-clause-causes : goal.returns-clause-causes
returns-clause-causes c =
    let old : List Mark = c.args.self.now.marks in
    let next : Option ℕ = next_version c.args.self.now.upto c.args.version.now in
    let refs_is : c.args.version.now.page.refs ≡ c.slots_of-refs.result.now = sym c.slots_of-refs.ensures in
    let stays_is : is_reached c.args.self.now.upto c.args.version.now.serial ≡ c.is_reached-stays.result = sym c.is_reached-stays.ensures in
    let f_is : following_at (begun c.args.self.now.stage) c.is_reached-stays.result ≡ c.following_at-following.result =
    ap (λ (s : Stage). following_at s c.is_reached-stays.result) (sym c.begun-stage.ensures) ∙ sym c.following_at-following.ensures in
    let next_is : next ≡ c.next_version-next.result = ap (λ b. cond b None c.args.version.now.commit) stays_is ∙ sym c.next_version-next.ensures in
    let test : (c.are_within.result && c.is_below.result) ≡ true = c.if-not-are_within-is_below.false in
    let parts : (c.are_within.result ≡ true) × (c.is_below.result ≡ true) = and_parts _ _ test in
    let within : are_within c.following_at-following.result (length old) c.args.version.now.page.refs ≡ true =
    ap (are_within c.following_at-following.result (length old)) refs_is
    ∙ ap (λ n. are_within c.following_at-following.result n c.slots_of-refs.result.now) (sym c.blocks-blocks.ensures.value) ∙ sym c.are_within.ensures ∙ parts.0 in
    let next_within : is_within (length old) next ≡ true =
    ap (is_within (length old)) next_is ∙ ap (λ n. is_within n c.next_version-next.result) (sym c.blocks-blocks.ensures.value) ∙ sym c.is_below.ensures ∙ parts.1 in
    let linked_is : next ≡ c.next_version-linked.result = ap (λ b. cond b None c.args.version.now.commit) stays_is ∙ sym c.next_version-linked.ensures in
    let seen : has_seen old (new_blocks c.following_at-following.result c.args.version.now.page.refs ++ option_to_list next) ≡ false =
    ap (λ (r : List ReferenceValue). has_seen old (new_blocks c.following_at-following.result r ++ option_to_list next)) refs_is
    ∙ ap (λ o. has_seen old (new_blocks c.following_at-following.result c.slots_of-refs.result.now ++ option_to_list o)) linked_is
    ∙ has_seen-next old c.name_new.new.marks 1 (new_blocks c.following_at-following.result c.slots_of-refs.result.now) c.next_version-linked.result
    (c.if-not-name_new.ensures.marks refl) (not-true _ (sym c.if-not-name_new.ensures.new))
    ∙ not-true _ (sym c.if-not-name_next.ensures.new) in
    let serial : (is_some c.args.self.now.upto && (not c.is_reached-stays.result && is_none c.args.version.now.commit)) ≡ false =
    sym c.is_serial_missing.ensures ∙ c.if-is_serial_missing.false in
    version_told old c.args.self.now.upto (begun c.args.self.now.stage) c.args.version.now c.is_reached-stays.result c.following_at-following.result next
    stays_is f_is refl within next_within seen serial

pub returns-clause-takes : goal.returns-clause-takes
returns-clause-takes c =
    let old : List Mark = c.args.self.now.marks in
    let next : Option ℕ = next_version c.args.self.now.upto c.args.version.now in
    let refs_is : c.args.version.now.page.refs ≡ c.slots_of-refs.result.now = sym c.slots_of-refs.ensures in
    let stays_is : is_reached c.args.self.now.upto c.args.version.now.serial ≡ c.is_reached-stays.result = sym c.is_reached-stays.ensures in
    let f_is : following_at (begun c.args.self.now.stage) c.is_reached-stays.result ≡ c.following_at-following.result =
    ap (λ (s : Stage). following_at s c.is_reached-stays.result) (sym c.begun-stage.ensures) ∙ sym c.following_at-following.ensures in
    let linked_is : next ≡ c.next_version-linked.result = ap (λ b. cond b None c.args.version.now.commit) stays_is ∙ sym c.next_version-linked.ensures in
    let after_is : next ≡ c.next_version-after.result = ap (λ b. cond b None c.args.version.now.commit) stays_is ∙ sym c.next_version-after.ensures in
    subst
    (λ (o : Option ℕ).
    VersionTaken c.args.at c.args.version.now c.args.self.now
    (record { marks = c.set.new.self; upto = c.args.self.now.upto; stage = c.begun-stage.result; after = o; reached = c.reached_at-reached.result }))
    (sym linked_is ∙ after_is)
    (version_is_taken c.args.at c.args.self.now c.args.version.now c.slots_of-refs.result.now c.is_reached-stays.result c.following_at-following.result
    c.next_version-linked.result c.reached_at-reached.result c.begun-stage.result c.name_new.new.marks c.name_next.new.marks c.share_all.new.marks c.set.new.self c.read_mark.result
    refs_is stays_is c.begun-stage.ensures f_is linked_is c.reached_at-reached.ensures c.read_mark.ensures c.set.ensures c.requires.within
    (not-true _ (sym c.if-not-name_new.ensures.new)) (not-true _ (sym c.if-not-name_next.ensures.new))
    (c.if-not-name_new.ensures.marks refl) c.if-not-name_new.ensures.stays (c.if-not-name_next.ensures.marks refl) c.if-not-name_next.ensures.stays
    c.share_all.ensures.marks c.share_all.ensures.stays)

pub returns-clause-left : goal.returns-clause-left
returns-clause-left c =
    let old : List Mark = c.args.self.now.marks in
    let st : Stays old c.share_all.new.marks =
    Stays-then old c.name_new.new.marks c.share_all.new.marks c.if-not-name_new.ensures.stays
    (Stays-then c.name_new.new.marks c.name_next.new.marks c.share_all.new.marks c.if-not-name_next.ensures.stays c.share_all.ensures.stays) in
    let less : reads_left c.read_mark.result < reads_left (mark_at old c.args.at) =
    subst (λ (t : Mark). reads_left t < reads_left (mark_at old c.args.at)) (sym c.read_mark.ensures) (read-less c.is_reached-stays.result (mark_at old c.args.at) c.requires.needed) in
    subst (λ (m : List Mark). left_of m < left_of old) (sym c.set.ensures)
    (left-read c.args.at c.read_mark.result old c.share_all.new.marks c.requires.within st (st.next c.args.at c.requires.needed ∙ sym c.requires.needed) less)
