-- Pages on the way to the end of a step: each page that is fed leaves those below it.
use Rattle.std.proofs.Common.{◌≡◌, ◌⊎◌, inl, inr, ℕ, ◌+◌, ◌<◌, true, cond, List, [], ◌∷◌, ◌++◌, length, length-append, Some, sym, ap, ◌∙◌, arith, append-nil, true≢false}
use Rattle.afs_base.specs.Path.{is_prefix}
use Rattle.draft_model.specs.Steps.{fed, fed_page}
use Rattle.draft_model.specs.Views.{View, Wants, copies, live}
use Rattle.page_codec.specs.Values.{PageValue}
use Rattle.tree_model.proofs.Paths.{prefix_told, same_self}
use Rattle.tree_model.proofs.Untouched.{prefix_either}
use Rattle.session.specs.Own.{IsOnItsWay}

-- the page that was fed is live
pub fed_live : (d : View) (q : List ℕ) (page : PageValue) → live (copies (fed d q page)) q ≡ true
fed_live d q page = ap (λ a. live (copies (λ p. cond a (Some (fed_page page)) (d p))) q) (same_self q)

-- a page below another is longer, unless it is that page
below_longer : (p q : List ℕ) → is_prefix p q ≡ true → (q ≡ p) ⊎ (length p < length q)
below_longer p q below = (let rest = prefix_told p q below in by rest.0 rest.1)
  where
    by : (r : List ℕ) → p ++ r ≡ q → (q ≡ p) ⊎ (length p < length q)
    by [] is = inl (sym is ∙ append-nil p)
    by (k ∷ r) is = (let long = sym (length-append p (k ∷ r)) ∙ ap length is in inr (omega (arith, long)))

-- a page that is wanted is not live, and on the way
module _ (e : View) (end path : List ℕ) (there : live (copies e) path ≡ true) (on_way : is_prefix path end ≡ true)
    (above : (p q : List ℕ) → is_prefix q p ≡ true → live (copies e) p ≡ true → live (copies e) q ≡ true) where
  wanted_longer : (q : List ℕ) (block : ℕ) → Wants (copies e) end q block → length path < length q
  wanted_longer q block wants = by (prefix_either path q end on_way wants.on_way)
    where
      not_there : live (copies e) q ≡ true → length path < length q
      not_there is = absurd (true≢false (sym is ∙ wants.not_yet))

      by : (is_prefix path q ≡ true) ⊎ (is_prefix q path ≡ true) → length path < length q
      by (inl below) = of_below (below_longer path q below)
        where
          of_below : (q ≡ path) ⊎ (length path < length q) → length path < length q
          of_below (inl same_path) = not_there (ap (live (copies e)) same_path ∙ there)
          of_below (inr longer) = longer
      by (inr up) = not_there (above path q up there)

  pub way_goes_on : (n : ℕ) → n < length path → IsOnItsWay e end (n + 1)
  way_goes_on n low = record {
    wants = λ q block wants. (let longer = wanted_longer q block wants in omega (arith, low, longer));
    most = (let rest = prefix_told path end on_way in let long = sym (length-append path rest.0) ∙ ap length rest.1 in omega (arith, low, long));
  }
