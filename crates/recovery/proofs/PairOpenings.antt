-- From an opening over a store of blocks to one of two halves.
use Rattle.std.proofs.Common.{◌≡◌, ◌⊎◌, inl, inr, ℕ, ◌<◌, ◌≤◌, List, [], Option, None, Result, Ok, Err, refl, sym, ap, subst, ◌∙◌, arith}
use Rattle.std.specs.Prelude.{IfOk, IfErr}
use Rattle.std.proofs.Math.Path.{fun_ext}
use Rattle.drives.specs.declared.device.Drives.{Ghosts as Device}
use Rattle.drives.specs.declared.device.Half.TheVariants.{A, B}
use Rattle.drives.specs.Changes.{Changes, Halves, halves_seen}
use Rattle.page_codec.specs.declared.why.Why.TheVariants.{Closed}
use Rattle.pair_store.specs.Answers.{IsUntorn}
use Rattle.pair_store.specs.Mending.{IsHalfFault}
use Rattle.pair_store.specs.declared.fault.PairFault.{PairFault}
use Rattle.pair_store.specs.declared.fault.PairFault.TheVariants.{ReadFault, WriteFault, BothClosed, BadPage}
use Rattle.pair_store.specs.declared.on_halves.Pair.{Pair}
use Rattle.pair_store.specs.declared.store.Blocks.{Ghosts}
use Rattle.pair_store.specs.Content.{ContentsLeft, IsSettled, IsSettledAlways, content_of}
use Rattle.tree_model.specs.States.{State}
use Rattle.store_model.specs.Walk.{Refused, bind, content_at, refuse}
use Rattle.store_model.specs.Found.{LaidStore, laid, laid_from, found, state_of}
use Rattle.store_model.specs.Laws.{read_of}
use Rattle.store_model.proofs.PlaceLists.{not_in}
use Rattle.store_model.proofs.Steps.{Content}
use Rattle.store_model.proofs.Stores.{Parts, parts_of}
use Rattle.store_check.specs.Checked.{AreSettled}
use Rattle.store_check.specs.Results.{Outcome}
use Rattle.recovery.specs.declared.opened.Opened.{Opened}
use Rattle.recovery.specs.declared.opened.OpenedOver.{OpenedOver}
use Rattle.recovery.specs.declared.opened.Unopened.{Unopened}
use Rattle.recovery.specs.declared.opened.UnopenedOver.{UnopenedOver}
use Rattle.recovery.specs.Halves.{AtRest, contents, why_not}
use Rattle.recovery.specs.Known.{why_of}
use Rattle.recovery.specs.Mended.{blocks_in_table, table_in}
use Rattle.recovery.specs.Opening.{IsBad, IsNoPlace, IsNoStore, IsOpening, SameFound, drives_of, pair_result, refused_call, store_of}
use Rattle.recovery.specs.Rolling.{IsUnwritten}
use Rattle.recovery.proofs.Places.{places_ranged}

-- ---- what is found

-- where block 0 has no content there is no store
closed_laid : (c : Content) (most : ℕ) (o : Option (List ℕ)) → o ≡ None → bind (content_at 0 o) (laid_from c most) [] ≡ Err (record { block = 0; why = Closed })
unfolding bind content_at refuse
closed_laid c most o is = ap (λ x. bind (content_at 0 x) (laid_from c most) []) is

pub no_content : (c : Content) (most : ℕ) → c 0 ≡ None → IsNoStore c most
unfolding laid
no_content c most is = (record { block = 0; why = Closed }, ap state_of (closed_laid c most (c 0) is))

-- a block of which the table tells nothing is no place
pub beyond_places : (c : Content) (most n : ℕ) → blocks_in_table (table_in (c 0)) ≤ n → IsNoPlace (laid c most []) n
beyond_places c most n high = of (laid c most []) refl
  where
    of : (o : Outcome LaidStore) → laid c most [] ≡ o → IsNoPlace o n
    of (Err e) is = tt
    of (Ok (store, places)) is =
        let p : Parts c most store places = parts_of c most store places is in
        let count : blocks_in_table (table_in (c 0)) ≡ store.root.blocks =
        ap (λ x. blocks_in_table (table_in x)) p.holds ∙ ap (λ x. blocks_in_table (read_of x)) p.reads ∙ ap (λ (s : LaidStore). s.root.blocks) (sym p.made) in
        not_in places n (λ h. let low = (places_ranged c most store places is n h).1 in Prim.omega (arith, low, count, high))

-- ---- what comes back

pub drives_same : {V : Type 0} (r : Result (OpenedOver (Pair V)) (UnopenedOver (Pair V))) (since : ℕ) → (store_of r).drives ≡ drives_of (pair_result r since)
drives_same (Ok o) since = refl
drives_same (Err e) since = refl

pub why_same : {V : Type 0} (r : Result (OpenedOver (Pair V)) (UnopenedOver (Pair V))) (since : ℕ) → why_not (pair_result r since) ≡ why_of r
why_same (Ok o) since = refl
why_same (Err e) since = refl

-- a fact of what was opened, and one of what was not
pub ok_pair : {V : Type 0} (P : OpenedOver (Pair V) → Type 0) (Q : Opened V → Type 0) (r : Result (OpenedOver (Pair V)) (UnopenedOver (Pair V))) (since : ℕ)
    → ((o : OpenedOver (Pair V)) → store_of r ≡ o.store → P o → Q (record { pair = o.store; table = o.table; map = o.map; heads = o.heads; since = since }))
    → IfOk r P → IfOk (pair_result r since) Q
ok_pair P Q (Ok o) since to p = to o refl p
ok_pair P Q (Err e) since to p = tt

pub err_pair : {V : Type 0} (P : UnopenedOver (Pair V) → Type 0) (Q : Unopened V → Type 0) (r : Result (OpenedOver (Pair V)) (UnopenedOver (Pair V))) (since : ℕ)
    → ((e : UnopenedOver (Pair V)) → P e → Q (record { drives = e.store.drives; why = e.why })) → IfErr r P → IfErr (pair_result r since) Q
err_pair P Q (Ok o) since to p = tt
err_pair P Q (Err e) since to p = to e p

pub since_pair : {V : Type 0} (r : Result (OpenedOver (Pair V)) (UnopenedOver (Pair V))) (since moment : ℕ) → since ≡ moment → IfOk (pair_result r since) (λ o. o.since ≡ moment)
since_pair (Ok o) since moment at = at
since_pair (Err e) since moment at = tt

-- a mending that a half ended
pub bad_call : (fault : PairFault) (outcome : Result State Refused) → IsHalfFault fault → IsBad outcome (refused_call fault)
bad_call (ReadFault h) outcome is = tt
bad_call (WriteFault h) outcome is = tt
bad_call (BothClosed n) outcome is = absurd is
bad_call (BadPage n why) outcome is = absurd is

pub untorn_call : (fault : PairFault) → IsUnwritten {T = Unit {0}} (Err (refused_call fault)) → IsUntorn {T = Unit {0}} (Err fault)
untorn_call (ReadFault h) un = tt
untorn_call (WriteFault h) un = un
untorn_call (BothClosed n) un = tt
untorn_call (BadPage n why) un = tt

-- ---- two halves where nothing is pending

module _ {V : Type 0} (v : Device V) where
  -- what is settled where nothing is pending is settled in everything that a crash may leave
  at_rest_always : (d : V) → AtRest v d → (n : ℕ) → IsSettled n (halves_seen v.seen d) → IsSettledAlways v.may_leave d (v.moment d) n
  at_rest_always d rest n s x left =
      subst (λ (l : List ℕ). IsSettled n (let y : Halves = record { a = x.a; b = l } in y)) (sym (rest B x.b left.1))
      (subst (λ (l : List ℕ). IsSettled n (let y : Halves = record { a = l; b = v.seen d B } in y)) (sym (rest A x.a left.0)) s)

  pub mended_always : (d : V) → AtRest v d → AreSettled (λ n. IsSettled n (halves_seen v.seen d)) (contents v d) (v.size d)
      → AreSettled (λ n. IsSettledAlways v.may_leave d (v.moment d) n) (contents v d) (v.size d)
  mended_always d rest m = record {
    table = at_rest_always d rest 0 m.table;
    others = λ bytes root here reads n low in_size. at_rest_always d rest n (m.others bytes root here reads n low in_size);
  }

  -- a crash leaves the contents that reads give
  pub left_at_rest : (d : V) → AtRest v d → (f : Content) → ContentsLeft v.may_leave d (v.moment d) f → f ≡ contents v d
  left_at_rest d rest f left =
      fun_ext
      (λ n. left.2 n
      ∙ ap (λ l. content_of (let y : Halves = record { a = l; b = left.0.b } in y) n) (rest A left.0.a left.1.0)
      ∙ ap (λ l. content_of (let y : Halves = record { a = v.seen d A; b = l } in y) n) (rest B left.0.b left.1.1))

  -- changes of a store on two halves are those of the halves
  pub halves_change : (a b : Pair V) (R : Content → Content → Type 0)
      → Changes (λ (p : Pair V). v.moment p.drives) (λ (p : Pair V). ContentsLeft v.may_leave p.drives) a b R → Changes v.moment (ContentsLeft v.may_leave) a.drives b.drives R
  halves_change a b R ch = record { later = ch.later; last = ch.last; stuck = ch.stuck; past = ch.past; own = ch.own }

  -- an opening that began at an earlier moment, where nothing was pending
  pub opening_since : (p : Ghosts (Pair V)) (start : V) (o : OpenedOver (Pair V)) (since : ℕ) → since ≡ v.moment start
      → ((x : Pair V) → p.moment x ≡ v.moment x.drives) → ((x : Pair V) (t : ℕ) (f : Content) → p.may_leave x t f → ContentsLeft v.may_leave x.drives t f)
      → AtRest v start
      → Changes v.moment (ContentsLeft v.may_leave) start o.store.drives (SameFound (p.size o.store)) → SameFound (p.size o.store) (contents v start) (p.content o.store)
      → IsOpening p o → IsOpening p (record o { since = since })
  opening_since p start o since at clock leaves rest images same is = record {
    opened = is.opened;
    settled = is.settled;
    always = is.always;
    before = (let later = images.later in let now = clock o.store in omega (arith, later, at, now));
    since = λ t f low high may.
        let now = clock o.store in
        let from = images.own t f (omega (arith, low, at)) (omega (arith, high, now)) (leaves o.store t f may) in
        from.2 ∙ ap (λ x. found x (p.size o.store)) (left_at_rest start rest from.0 from.1) ∙ sym same;
  }

-- an opening begun earlier, where each crash in between leaves the same files
pub since_earlier : {D : Type 0} (b : Ghosts D) (o : OpenedOver D) (early : ℕ) → IsOpening b o → early ≤ o.since
    → ((t : ℕ) (f : Content) → early ≤ t → t < o.since → b.may_leave o.store t f → SameFound (b.size o.store) (b.content o.store) f)
    → IsOpening b (record o { since = early })
since_earlier b o early is le more = record {
  opened = is.opened;
  settled = is.settled;
  always = is.always;
  before = (let before = is.before in omega (arith, before, le));
  since = λ t f low high may. elim (before_or_not t o.since) [ inl less ↦ more t f low less may | inr late ↦ is.since t f late high may ];
}
  where
    before_or_not : (i n : ℕ) → (i < n) ⊎ (n ≤ i)
    before_or_not i n = Prim.grind arith
