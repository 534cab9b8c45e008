-- How far a commit has come: what is being written, what comes next, and what one block more leaves.
use Rattle.std.proofs.Common.{◌≡◌, ℕ, zero, suc, ◌+◌, ◌<◌, ◌≤◌, List, [], ◌∷◌, ◌++◌, length, refl, sym, ap, subst, ◌∙◌, Option, Some, None, arith, slice_get, slice_set}
use Rattle.std.specs.List.{AllByRecursion}
use Rattle.block_map.specs.declared.states.BlockState.{BlockState}
use Rattle.page_codec.specs.Values.{MemberValue}
use Rattle.version_chain.specs.Flush.{Plan, AreHeld}
use Rattle.pool_draft.specs.declared.pool_set.PoolSet.{PoolSet}
use Rattle.joint_flush.specs.Joint.{Joint, Part, AreHeldInTurn, IsNamed, AreNamed, IsWhole, IsUnbegun, HasCome}
use Rattle.joint_flush.proofs.Lists.{part_is}

-- one block more of the plan, or of the part, was given out
abbrev pub more_plan : Plan → Plan
more_plan plan = record { placed = plan.placed; members = plan.members; written = plan.written + 1 }

abbrev pub more : Part → Part
more part = record { number = part.number; plan = more_plan part.plan }

-- the blocks behind those of the top
pub held_behind : (states : List BlockState) (client : ℕ) (top : Part) (behind : List Part) → AreHeldInTurn states client 0 (top ∷ behind) → AreHeldInTurn states client (length top.plan.placed) behind
held_behind states client top behind held = subst (λ (n : ℕ). AreHeldInTurn states client n behind) (none (length top.plan.placed)) held.1
  where
    none : (n : ℕ) → 0 + n ≡ n
    none n = omega arith

-- ---- where it is

pub come_within : (set : PoolSet) (j : Joint) (top : Part) (from : ℕ) (ms : List MemberValue) (ps : List Part) → HasCome set j top from ms ps → length ms ≤ length ps
come_within set j top from [] ps come = omega arith
come_within set j top from (m ∷ ms) [] come = absurd come
come_within set j top from (m ∷ ms) (p ∷ ps) come = (let rest = come_within set j top (from + length p.plan.placed) ms ps come.2 in omega (arith, rest))

-- behind all parts the top is being written, and they are whole
pub come_top : (set : PoolSet) (j : Joint) (top : Part) (from : ℕ) (ms : List MemberValue) (ps : List Part) → HasCome set j top from ms ps → slice_get ps (length ms) ≡ None
    → (j.flush ≡ top.plan) × AllByRecursion IsWhole ps
come_top set j top from [] [] come at = (come.1, tt)
come_top set j top from [] (p ∷ ps) come at = absurd (cc at)
come_top set j top from (m ∷ ms) [] come at = absurd come
come_top set j top from (m ∷ ms) (p ∷ ps) come at =
    let rest = come_top set j top (from + length p.plan.placed) ms ps come.2 at in
    (rest.0, (come.0, rest.1))

-- what is known of the part that is being written, and of the top meanwhile
pub record IsCurrent (states : List BlockState) (client : ℕ) (j : Joint) (top part : Part) : Type 0 where
  pub flush : j.flush ≡ part.plan
  pub left : part.plan.written < length part.plan.placed
  pub held : AreHeld states client j.from part.plan.placed
  pub top_waits : IsUnbegun top

pub come_current : (set : PoolSet) (states : List BlockState) (client : ℕ) (j : Joint) (top : Part) (from : ℕ) (ms : List MemberValue) (ps : List Part) (part : Part)
    → HasCome set j top from ms ps → AreHeldInTurn states client from ps → slice_get ps (length ms) ≡ Some part → IsCurrent states client j top part
come_current set states client j top from [] [] part come held at = absurd (cc at)
come_current set states client j top from [] (p ∷ ps) part come held at =
    let F : Part → Type 0 = λ x. IsCurrent states client j top x in
    subst F (part_is p part at) (record {
      flush = come.flush;
      left = come.left;
      held = subst (λ (n : ℕ). AreHeld states client n p.plan.placed) (sym come.place) held.0;
      top_waits = come.wait.0;
    })
come_current set states client j top from (m ∷ ms) [] part come held at = absurd come
come_current set states client j top from (m ∷ ms) (p ∷ ps) part come held at =
    come_current set states client j top (from + length p.plan.placed) ms ps part come.2 held.1 at

-- what is known of the part behind it
pub record IsComing (states : List BlockState) (client from : ℕ) (next : Part) : Type 0 where
  pub held : AreHeld states client from next.plan.placed
  pub waits : IsUnbegun next

pub come_next : (set : PoolSet) (states : List BlockState) (client : ℕ) (j : Joint) (top : Part) (from : ℕ) (ms : List MemberValue) (ps : List Part) (part next : Part)
    → HasCome set j top from ms ps → AreHeldInTurn states client from ps → slice_get ps (length ms) ≡ Some part → slice_get ps (suc (length ms)) ≡ Some next
    → IsComing states client (j.from + length part.plan.placed) next
come_next set states client j top from [] [] part next come held at there = absurd (cc at)
come_next set states client j top from [] (p ∷ []) part next come held at there = absurd (cc there)
come_next set states client j top from [] (p ∷ q ∷ ps) part next come held at there =
    let F : Part → Type 0 = λ x. IsComing states client (j.from + length part.plan.placed) x in
    let is : from + length p.plan.placed ≡ j.from + length part.plan.placed =
    (λ i. sym come.place i + length (part_is p part at i).plan.placed) in
    subst F (part_is q next there) (record {
      held = subst (λ (n : ℕ). AreHeld states client n q.plan.placed) is held.1.0;
      waits = come.wait.1.0;
    })
come_next set states client j top from (m ∷ ms) [] part next come held at there = absurd come
come_next set states client j top from (m ∷ ms) (p ∷ ps) part next come held at there =
    come_next set states client j top (from + length p.plan.placed) ms ps part next come.2 held.1 at there

-- the members of all parts, once the last one is over
pub come_named : (set : PoolSet) (j : Joint) (top : Part) (from : ℕ) (ms : List MemberValue) (ps : List Part) (part : Part) (m : MemberValue)
    → HasCome set j top from ms ps → slice_get ps (length ms) ≡ Some part → slice_get ps (suc (length ms)) ≡ None → IsNamed set m part → AreNamed set (ms ++ m ∷ []) ps
come_named set j top from [] [] part m come at last named = absurd (cc at)
come_named set j top from [] (p ∷ []) part m come at last named =
    let F : Part → Type 0 = λ x. IsNamed set m x in
    (subst F (sym (part_is p part at)) named, tt)
come_named set j top from [] (p ∷ q ∷ ps) part m come at last named = absurd (cc last)
come_named set j top from (n ∷ ms) [] part m come at last named = absurd come
come_named set j top from (n ∷ ms) (p ∷ ps) part m come at last named =
    (come.1, come_named set j top (from + length p.plan.placed) ms ps part m come.2 at last named)

some_number : (a b : ℕ) → Some a ≡ Some b → a ≡ b
some_number a b e = cc e

-- parts have one list of members
pub named_same : (set : PoolSet) (ms ns : List MemberValue) (ps : List Part) → AreNamed set ms ps → AreNamed set ns ps → ms ≡ ns
named_same set [] [] [] a b = refl
named_same set [] (n ∷ ns) [] a b = absurd b
named_same set (m ∷ ms) ns [] a b = absurd a
named_same set [] ns (p ∷ ps) a b = absurd a
named_same set (m ∷ ms) [] (p ∷ ps) a b = absurd b
named_same set (m ∷ ms) (n ∷ ns) (p ∷ ps) a b =
    let object : m.object ≡ n.object = a.0.0 ∙ sym b.0.0 in
    let block : m.block ≡ n.block = some_number m.block n.block (sym a.0.1 ∙ b.0.1) in
    let rest : ms ≡ ns = named_same set ms ns ps a.1 b.1 in
    λ i. record { object = object i; block = block i } ∷ rest i

-- ---- one block more

-- of the top
pub top_more : (set : PoolSet) (j new : Joint) (top more_top : Part) (from : ℕ) (ms : List MemberValue) (ps : List Part) → HasCome set j top from ms ps
    → slice_get ps (length ms) ≡ None → new.from ≡ j.from → new.flush ≡ more_top.plan → HasCome set new more_top from ms ps
top_more set j new top more_top from [] [] come at place flush = (place ∙ come.0, flush)
top_more set j new top more_top from [] (p ∷ ps) come at place flush = absurd (cc at)
top_more set j new top more_top from (m ∷ ms) [] come at place flush = absurd come
top_more set j new top more_top from (m ∷ ms) (p ∷ ps) come at place flush =
    (come.0, come.1, top_more set j new top more_top (from + length p.plan.placed) ms ps come.2 at place flush)

-- of a part behind it, of which some are left
pub part_more : (set : PoolSet) (j new : Joint) (top : Part) (from : ℕ) (ms : List MemberValue) (ps : List Part) (part : Part) → HasCome set j top from ms ps
    → slice_get ps (length ms) ≡ Some part → new.from ≡ j.from → new.flush ≡ more_plan part.plan → part.plan.written + 1 < length part.plan.placed
    → HasCome set new top from ms (slice_set ps (length ms) (more part))
part_more set j new top from [] [] part come at place flush left = absurd (cc at)
part_more set j new top from [] (p ∷ ps) part come at place flush left = record {
  place = place ∙ come.place;
  flush = flush;
  left = left;
  wait = come.wait;
}
part_more set j new top from (m ∷ ms) [] part come at place flush left = absurd come
part_more set j new top from (m ∷ ms) (p ∷ ps) part come at place flush left =
    (come.0, come.1, part_more set j new top (from + length p.plan.placed) ms ps part come.2 at place flush left)

-- which flush comes behind it: that of the next part, or else of the top
abbrev pub ComesNext : Plan → Part → Option Part → Type 0
ComesNext plan top None = plan ≡ top.plan
ComesNext plan top (Some next) = (plan ≡ next.plan) × (next.plan.written < length next.plan.placed)

-- of a part behind it, which is whole by that
pub part_over : (set : PoolSet) (j new : Joint) (top : Part) (from : ℕ) (ms : List MemberValue) (ps : List Part) (part : Part) (m : MemberValue) → HasCome set j top from ms ps
    → slice_get ps (length ms) ≡ Some part → new.from ≡ j.from + length part.plan.placed → part.plan.written + 1 ≡ length part.plan.placed → IsNamed set m part
    → ComesNext new.flush top (slice_get ps (suc (length ms)))
    → HasCome set new top from (ms ++ m ∷ []) (slice_set ps (length ms) (more part))
part_over set j new top from [] [] part m come at place whole named next = absurd (cc at)
part_over set j new top from [] (p ∷ []) part m come at place whole named next =
    let is : j.from + length part.plan.placed ≡ from + length part.plan.placed = ap (λ (n : ℕ). n + length part.plan.placed) come.place in
    (whole, named, (place ∙ is, next))
part_over set j new top from [] (p ∷ q ∷ ps) part m come at place whole named next =
    let is : j.from + length part.plan.placed ≡ from + length part.plan.placed = ap (λ (n : ℕ). n + length part.plan.placed) come.place in
    (whole, named, record { place = place ∙ is; flush = next.0; left = next.1; wait = (come.wait.0, come.wait.1.1) })
part_over set j new top from (n ∷ ms) [] part m come at place whole named next = absurd come
part_over set j new top from (n ∷ ms) (p ∷ ps) part m come at place whole named next =
    (come.0, come.1, part_over set j new top (from + length p.plan.placed) ms ps part m come.2 at place whole named next)

-- the places of one part are as they were, and so are those of all
pub held_set : (states : List BlockState) (client from : ℕ) (ps : List Part) (k : ℕ) (part : Part) → slice_get ps k ≡ Some part → AreHeldInTurn states client from ps
    → AreHeldInTurn states client from (slice_set ps k (more part))
held_set states client from [] k part at held = held
held_set states client from (p ∷ ps) zero part at held =
    let F : Part → Type 0 = λ x. AreHeld states client from x.plan.placed × AreHeldInTurn states client (from + length x.plan.placed) ps in
    subst F (part_is p part at) held
held_set states client from (p ∷ ps) (suc k) part at held = (held.0, held_set states client (from + length p.plan.placed) ps k part at held.1)

pub named_set : (set : PoolSet) (ms : List MemberValue) (ps : List Part) (k : ℕ) (part : Part) → slice_get ps k ≡ Some part → AreNamed set ms ps
    → AreNamed set ms (slice_set ps k (more part))
named_set set ms [] k part at named = named
named_set set [] (p ∷ ps) k part at named = absurd named
named_set set (m ∷ ms) (p ∷ ps) zero part at named =
    let F : Part → Type 0 = λ x. IsNamed set m x in
    (subst F (part_is p part at) named.0, named.1)
named_set set (m ∷ ms) (p ∷ ps) (suc k) part at named = (named.0, named_set set ms ps k part at named.1)
