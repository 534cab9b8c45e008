-- A chain goes alike from a version that is like the one it was read from, and with more steps allowed.
use Rattle.std.proofs.Common.{◌≡◌, ℕ, zero, suc, List, [], ◌∷◌, ◌⊎◌, inl, inr, Some, Ok, refl, sym, ap, ◌∙◌}
use Rattle.store_model.specs.Laid.{LaidVersion}
use Rattle.store_model.specs.Chains.{version_at, chain_from}
use Rattle.store_model.specs.Walk.{done}
use Rattle.store_model.proofs.Steps.{Content, blocks_of}
use Rattle.store_model.proofs.Chaining.{Ended, Onward, chain_goes, chain_stops}
use Rattle.store_changes.proofs.Likeness.{HeadLike, VersionLike, VersionGoes, version_like}
use Rattle.store_changes.proofs.Again.{chain_split}
use Rattle.store_changes.proofs.Reached.{zero_told, zero_stays}

-- version by version
abbrev pub AllLike : List LaidVersion → List LaidVersion → Type 0
AllLike [] [] = Unit {0}
AllLike [] (w ∷ ws) = ⊥
AllLike (v ∷ vs) [] = ⊥
AllLike (v ∷ vs) (w ∷ ws) = VersionLike v w × AllLike vs ws

pub record ChainLike (c : Content) (count object most : ℕ) (v w : LaidVersion) (seen : List ℕ) (vs : List LaidVersion) (all : List ℕ) : Type 0 where
  pub rest : List LaidVersion
  pub others : List LaidVersion
  pub list : vs ≡ v ∷ rest
  pub runs : chain_from (blocks_of c count) object most w seen ≡ Ok (w ∷ others, all)
  pub like : AllLike rest others

zero_runs : (c : Content) (count object : ℕ) (w : LaidVersion) (seen : List ℕ) → chain_from (blocks_of c count) object zero w seen ≡ Ok (w ∷ [], seen)
unfolding chain_from done
zero_runs c count object w seen = refl

ended_like : (c : Content) (count object most : ℕ) (v w : LaidVersion) (seen : List ℕ) (vs : List LaidVersion) (all : List ℕ)
    → HeadLike v w → Ended v seen vs all → ChainLike c count object (suc most) v w seen vs all
ended_like c count object most v w seen vs all h x =
    record {
      rest = [];
      others = [];
      list = x.list;
      runs = chain_stops c count object (suc most) w seen (sym h.commit ∙ x.commit) ∙ ap (λ l. Ok (w ∷ [], l)) (sym x.stays);
      like = tt;
    }

pub chain_like : (c : Content) (count object most : ℕ) (v w : LaidVersion) (seen : List ℕ) (vs : List LaidVersion) (all : List ℕ)
    → HeadLike v w → chain_from (blocks_of c count) object most v seen ≡ Ok (vs, all) → ChainLike c count object most v w seen vs all
chain_like c count object zero v w seen vs all h e =
    record { rest = []; others = []; list = zero_told c count object v seen vs all e; runs = zero_runs c count object w seen ∙ ap (λ l. Ok (w ∷ [], l)) (zero_stays c count object v seen vs all e); like = tt }
chain_like c count object (suc most) v w seen vs all h e =
    by (λ b next mid rest other u l goes. chain_like c count object most next other mid rest all l goes) (chain_split c count object most v seen vs all e)
  where
    by : ((b : ℕ) (next : LaidVersion) (mid : List ℕ) (rest : List LaidVersion) (other : LaidVersion) → Unit {0} → HeadLike next other
        → chain_from (blocks_of c count) object most next mid ≡ Ok (rest, all) → ChainLike c count object most next other mid rest all)
        → Ended v seen vs all ⊎ Onward c count object most v seen vs all → ChainLike c count object (suc most) v w seen vs all
    by go (inl x) = ended_like c count object most v w seen vs all h x
    by go (inr x) =
        let g : VersionGoes c count object v.block x.block w seen x.next x.mid = version_like c count object v.block x.block v w seen x.next x.mid h x.read in
        let r : ChainLike c count object most x.next g.version x.mid x.rest all = go x.block x.next x.mid x.rest g.version tt g.like.head x.goes in
        record {
          rest = x.next ∷ r.rest;
          others = g.version ∷ r.others;
          list = x.list ∙ ap (λ l. v ∷ l) r.list;
          runs = chain_goes c count object most x.block w g.version (g.version ∷ r.others) seen x.mid all (sym h.commit ∙ x.commit)
              (ap (λ b. version_at (blocks_of c count) object b x.block (Some w) seen) (sym h.block) ∙ g.runs) r.runs;
          like = (g.like, r.like);
        }
