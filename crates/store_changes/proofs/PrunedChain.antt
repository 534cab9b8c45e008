-- A chain read from a later version on, as its first: from any places that were found before the chain, over contents that agree but for the table.
use Rattle.std.proofs.Common.{◌≡◌, ℕ, zero, suc, ◌+◌, List, [], ◌∷◌, ◌++◌, ◌⊎◌, inl, inr, Some, None, Ok, refl, sym, ap, subst, ◌∙◌, arith, nat_eq, true≢false, slice_get, take, drop}
use Rattle.std.specs.List.{list_any}
use Rattle.tree_model.proofs.Paths.{told}
use Rattle.store_model.specs.Laid.{LaidVersion}
use Rattle.store_model.specs.Chains.{version_at, chain_from, chain_at}
use Rattle.store_model.proofs.PlaceLists.{IsIn, Apart, in_left, in_right, in_either, in_along}
use Rattle.store_model.proofs.Steps.{Content, blocks_of, InRange, Ran, went_on}
use Rattle.store_model.proofs.Locality.{framed_version, framed_chain_from}
use Rattle.store_model.proofs.Chaining.{Chained, Ended, Onward, chain_goes, chain_stops, ChainAgain, chain_again}
use Rattle.store_model.proofs.Edits.{some_is}
use Rattle.store_model.proofs.Rewriting.{VersionRead, version_read}
use Rattle.store_model.proofs.FirstPages.{AreFrom, first_pages}
use Rattle.store_changes.specs.Stands.{IsPageOf}
use Rattle.store_changes.proofs.Again.{chain_split}
use Rattle.store_changes.proofs.Entries.{AgreeBeside}
use Rattle.store_changes.proofs.FirstAgain.{FirstAgain, first_again}
use Rattle.store_changes.proofs.Likeness.{HeadLike}
use Rattle.store_changes.proofs.Reached.{Placed, placed_first, ReachedAt, reached_in, apart_from, PageOfSome, zero_told, zero_stays, first_is}
use Rattle.store_changes.proofs.ChainAlike.{AllLike, ChainLike, chain_like}

-- ---- more steps

chain_longer : (c : Content) (count object most extra : ℕ) (v : LaidVersion) (seen : List ℕ) (vs : List LaidVersion) (all : List ℕ) (rest : List LaidVersion)
    → chain_from (blocks_of c count) object most v seen ≡ Ok (vs, all) → vs ≡ v ∷ rest → Chained v rest → chain_from (blocks_of c count) object (most + extra) v seen ≡ Ok (vs, all)
chain_longer c count object zero extra v seen vs all (w ∷ ws) e is chained = absurd (let f : v ∷ [] ≡ v ∷ (w ∷ ws) = sym (zero_told c count object v seen vs all e) ∙ is in let g : [] ≡ w ∷ ws = cc in cc)
chain_longer c count object zero extra v seen vs all [] e is chained =
    chain_stops c count object (zero + extra) v seen chained ∙ ap (λ l. Ok (l, seen)) (sym is) ∙ ap (λ l. Ok (vs, l)) (zero_stays c count object v seen vs all e)
chain_longer c count object (suc most) extra v seen vs all rest e is chained =
    by rest is chained (λ next mid rests others goes list ch. chain_longer c count object most extra next mid rests all others goes list ch) (chain_split c count object most v seen vs all e)
  where
    by : (others : List LaidVersion) → vs ≡ v ∷ others → Chained v others
        → ((next : LaidVersion) (mid : List ℕ) (rests behind : List LaidVersion) → chain_from (blocks_of c count) object most next mid ≡ Ok (rests, all) → rests ≡ next ∷ behind
        → Chained next behind → chain_from (blocks_of c count) object (most + extra) next mid ≡ Ok (rests, all))
        → Ended v seen vs all ⊎ Onward c count object most v seen vs all → chain_from (blocks_of c count) object (suc most + extra) v seen ≡ Ok (vs, all)
    by others at ch go (inl x) = chain_stops c count object (suc most + extra) v seen x.commit ∙ ap (λ l. Ok (l, seen)) (sym x.list) ∙ ap (λ l. Ok (vs, l)) (sym x.stays)
    by [] at ch go (inr x) = absurd (let f : None ≡ Some x.block = sym ch ∙ x.commit in cc)
    by (w ∷ ws) at ch go (inr x) =
        let both : v ∷ x.rest ≡ v ∷ (w ∷ ws) = sym x.list ∙ at in
        let tail : x.rest ≡ w ∷ ws = cc in
        let same : w ≡ x.next = some_is (ap (λ l. slice_get l 0) (sym tail) ∙ first_is c count object most x.next x.mid x.rest all x.goes) in
        let longer : suc (most + extra) ≡ suc most + extra = omega arith in
        ap (λ n. chain_from (blocks_of c count) object n v seen) (sym longer)
        ∙ chain_goes c count object (most + extra) x.block v x.next x.rest seen x.mid all x.commit x.read
        (go x.next x.mid x.rest ws x.goes (tail ∙ ap (λ y. y ∷ ws) same) (subst (λ y. Chained y ws) same ch.1))
        ∙ ap (λ l. Ok (l, all)) (sym x.list)

chained_drop : (j : ℕ) (v u : LaidVersion) (vs rest : List LaidVersion) → Chained v vs → drop j (v ∷ vs) ≡ u ∷ rest → Chained u rest
chained_drop zero v u vs rest ch is = let one : v ≡ u = cc in let two : vs ≡ rest = cc in subst (λ x. Chained x rest) one (subst (Chained v) two ch)
chained_drop (suc j) v u [] rest ch is = absurd (gone j is)
  where
    gone : (k : ℕ) → drop k [] ≡ u ∷ rest → ⊥
    gone zero h = cc
    gone (suc k) h = cc
chained_drop (suc j) v u (w ∷ ws) rest ch is = chained_drop j w u ws rest ch.1 is

chained_like : (v w : LaidVersion) (vs ws : List LaidVersion) → HeadLike v w → AllLike vs ws → Chained v vs → Chained w ws
chained_like v w [] [] h like ch = sym h.commit ∙ ch
chained_like v w [] (y ∷ ws) h like ch = absurd like
chained_like v w (x ∷ vs) [] h like ch = absurd like
chained_like v w (x ∷ vs) (y ∷ ws) h like ch = (sym h.commit ∙ ch.0 ∙ ap Some like.0.head.block, chained_like x y vs ws like.0.head like.1 ch.1)

-- ---- the chain

-- the pages of a first version stand in the order of their paths
pub first_from : (c : Content) (count object namer block : ℕ) (seen : List ℕ) (u : LaidVersion) (all : List ℕ)
    → version_at (blocks_of c count) object namer block None seen ≡ Ok (u, all) → AreFrom [] u.nodes
first_from c count object namer block seen u all e =
    let v : VersionRead c count object block None seen u all = version_read c count object namer block None seen u all e in
    subst (λ (w : LaidVersion). AreFrom [] w.nodes) (sym v.made)
    (first_pages (blocks_of c count) block v.page.page (record { flags = v.page.root; block = Some block }) (block ∷ seen) v.others all v.below)

-- The versions from one on, with that one as the first: which places are lost is told by the versions before it, `past`.
pub record PrunedChain (d : Content) (count object namer : ℕ) (past : List LaidVersion) (u : LaidVersion) (kept : List LaidVersion) (start all later : List ℕ) : Type 0 where
  pub first : LaidVersion
  pub rest : List LaidVersion
  pub others : List LaidVersion
  pub list : kept ≡ u ∷ rest
  pub like : HeadLike u first
  pub from : AreFrom [] first.nodes
  pub likes : AllLike rest others
  pub after : List ℕ
  pub runs : chain_at (blocks_of d count) object namer u.block later ≡ Ok (first ∷ others, after)
  pub only : (n : ℕ) → IsIn after n → IsIn later n ⊎ (IsIn all n × (IsIn start n → ⊥))
  pub more : (n : ℕ) → IsIn later n → IsIn after n
  pub old : (n : ℕ) → PageOfSome past n → IsIn all n × (IsIn start n → ⊥)
  pub still : (n : ℕ) → IsIn after n → PageOfSome past n → IsPageOf u n
  pub lost : (n : ℕ) → IsIn all n → IsIn start n ⊎ (IsIn after n ⊎ (PageOfSome past n × (IsPageOf u n → ⊥)))

pub pruned_chain : (c d : Content) (count object namer name first j : ℕ) (table start : List ℕ) (vs : List LaidVersion) (all : List ℕ) (u : LaidVersion) (later : List ℕ)
    → chain_at (blocks_of c count) object namer first start ≡ Ok (vs, all) → slice_get vs j ≡ Some u → AgreeBeside c d table
    → ((n : ℕ) → IsIn table n → IsIn start n) → ((n : ℕ) → IsIn later n → IsIn start n)
    → PrunedChain d count object name (take j vs) u (drop j vs) start all later
unfolding chain_at
pruned_chain c d count object namer name first j table start vs all u later e at agree in_start within =
    let r : ReachedAt c count object count start (λ _. ⊥) (take j vs) u (drop j vs) all = reached_in c count object namer first j start vs all u e at in
    let fa : FirstAgain c count object name u later = first_again c count object name r.block r.before r.seen u r.mid later r.read r.lies (apart_from count start u r.mid later r.placed within) in
    let w : LaidVersion = record u { nodes = fa.nodes } in
    let like : HeadLike u w = record { serial = refl; block = refl; commit = refl; members = refl; blocks = fa.blocks } in
    let cl : ChainLike c count object r.most u w r.mid (drop j vs) all = chain_like c count object r.most u w r.mid (drop j vs) all like r.goes in
    let ca : ChainAgain c c count object first start vs all = chain_again c c count object namer first start vs all e in
    let chained : Chained w cl.others =
    chained_like u w cl.rest cl.others like cl.like (chained_drop j ca.head u ca.rest cl.rest ca.chained (ap (drop j) (sym ca.list) ∙ cl.list)) in
    let long : chain_from (blocks_of c count) object count w r.mid ≡ Ok (w ∷ cl.others, all) =
    ap (λ n. chain_from (blocks_of c count) object n w r.mid) (sym r.fits) ∙ chain_longer c count object r.most r.steps w r.mid (w ∷ cl.others) all cl.others cl.runs refl chained in
    let one : Ran c d (InRange count) (version_at (blocks_of d count) object name u.block None) later w fa.all = (framed_version c d count object name u.block None).runs later w fa.all fa.runs in
    let two : Ran c d (InRange count) (chain_from (blocks_of d count) object count w) r.mid (w ∷ cl.others) all = (framed_chain_from c d count object count w).runs r.mid (w ∷ cl.others) all long in
    let page : (n : ℕ) → IsIn one.new n → IsPageOf u n =
    λ n i. elim (fa.only n (in_along (one.new ++ later) fa.all (sym one.grown) n (in_left one.new later n i))) [ inl x ↦ absurd (one.apart n i x) | inr x ↦ x ] in
    let kept : (n : ℕ) → IsIn one.new n → IsIn r.mid n = λ n i. let x = page n i in r.placed.kept x.0 n x.1 in
    let out : (n : ℕ) → IsIn one.new n → IsIn start n → ⊥ = λ n i. let x = page n i in r.placed.off x.0 n x.1 in
    let go_one : version_at (blocks_of d count) object name u.block None later ≡ Ok (w, one.new ++ later) =
    one.anywhere later one.apart (λ n i. agree n (one.each n i).0 (λ t. out n i (in_start n t))) in
    let clear : Apart two.new (one.new ++ later) =
    λ n i k. elim (in_either one.new later n k) [ inl x ↦ two.apart n i (kept n x) | inr x ↦ two.apart n i (r.placed.more n (within n x)) ] in
    let go_two : chain_from (blocks_of d count) object count w (one.new ++ later) ≡ Ok (w ∷ cl.others, two.new ++ (one.new ++ later)) =
    two.anywhere (one.new ++ later) clear (λ n i. agree n (two.each n i).0 (λ t. two.apart n i (r.placed.more n (in_start n t)))) in
    let in_all : (n : ℕ) → IsIn r.mid n → IsIn all n = λ n i. in_along (two.new ++ r.mid) all (sym two.grown) n (in_right two.new r.mid n i) in
    let first_placed : Placed count later w fa.all = placed_first c count object name u.block later w fa.all fa.runs in
    let there : (n : ℕ) → IsPageOf u n → IsIn (two.new ++ (one.new ++ later)) n =
    λ n x. in_right two.new (one.new ++ later) n (in_along fa.all (one.new ++ later) one.grown n (first_placed.kept x.0 n (fa.blocks x.0 ∙ x.1))) in
    record {
      first = w;
      rest = cl.rest;
      others = cl.others;
      list = cl.list;
      like = like;
      from = first_from c count object name u.block later w fa.all fa.runs;
      likes = cl.like;
      after = two.new ++ (one.new ++ later);
      runs = went_on (version_at (blocks_of d count) object name u.block None) (chain_from (blocks_of d count) object count) later w (one.new ++ later) _ go_one go_two;
      only = λ n i. elim (in_either two.new (one.new ++ later) n i) [
        | inl x ↦ inr (in_along (two.new ++ r.mid) all (sym two.grown) n (in_left two.new r.mid n x), λ s. two.apart n x (r.placed.more n s))
        | inr x ↦ elim (in_either one.new later n x) [ inl y ↦ inr (in_all n (kept n y), out n y) | inr y ↦ inl y ]
      ];
      more = λ n i. in_right two.new (one.new ++ later) n (in_right one.new later n i);
      old = λ n h. (in_all n (r.covers.pages n (inr (inr h))).0, (r.covers.pages n (inr (inr h))).1);
      still = λ n i h. elim (in_either two.new (one.new ++ later) n i) [
        | inl x ↦ absurd (two.apart n x (r.covers.pages n (inr (inr h))).0)
        | inr x ↦ elim (in_either one.new later n x) [ inl y ↦ page n y | inr y ↦ absurd ((r.covers.pages n (inr (inr h))).1 (within n y)) ]
      ];
      lost = λ n i. elim (in_either two.new r.mid n (in_along all (two.new ++ r.mid) two.grown n i)) [
        | inl x ↦ inr (inl (in_left two.new (one.new ++ later) n x))
        | inr x ↦ elim (r.covers.only n x) [
          | inl y ↦ inl y
          | inr y ↦ elim y [
            | inl z ↦ inr (inl (there n z))
            | inr z ↦ elim z [
              | inl a ↦ absurd a
              | inr a ↦ elim (told (list_any (nat_eq n) (two.new ++ (one.new ++ later)))) [
                | inl t ↦ inr (inl t)
                | inr f ↦ inr (inr (a, λ b. true≢false (sym (there n b) ∙ f)))
              ]
            ]
          ]
        ]
      ];
    }
