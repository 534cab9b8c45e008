-- The page that is written for a live path.
use Rattle.std.proofs.Common.{◌≡◌, length, ℕ, Bool, true, false, List, ap, subst, ◌∙◌, Option, Some, option_map, MatchOption}
use Rattle.page_codec.specs.Values.{ReferenceValue, PageValue}
use Rattle.draft_model.specs.Views.{Copied, View, copy_of, copies, live}
use Rattle.draft_model.specs.Flush.{Placed, flushed_slots, flushed_page}
use Rattle.draft_model.proofs.Flushing.{copied_at}
use Rattle.draft_tree.specs.Drafts.{live_page, HasLevels}
use Rattle.version_chain.specs.Flush.{IsPageFor}

-- what a draft gives out of a live page
page_is : (d : View) (q : List ℕ) (c : Copied) → d q ≡ Some c → c.live ≡ true → live_page (copies d q) ≡ Some c.page
page_is d q c here alive =
    ap (λ (o : Option Copied). live_page (option_map copy_of o)) here
    ∙ ap (λ b. live_page (Some (record { live = b; page = c.page }))) alive

abbrev pub IsGiven : View → List ℕ → Bool → PageValue → PageValue → Type 0
IsGiven d q found before after = MatchOption (live_page (copies d q)) ((found ≡ false) × (after ≡ before)) (λ page. (found ≡ true) × (after ≡ page))

abbrev MatchesAs : Bool → PageValue → PageValue → Option PageValue → Type 0
MatchesAs found before after o = MatchOption o ((found ≡ false) × (after ≡ before)) (λ page. (found ≡ true) × (after ≡ page))

given_is : (d : View) (q : List ℕ) (found : Bool) (before after : PageValue) (c : Copied) → d q ≡ Some c → c.live ≡ true → IsGiven d q found before after → (found ≡ true) × (after ≡ c.page)
given_is d q found before after c here alive given = subst (MatchesAs found before after) (page_is d q c here alive) given

-- the page that was given out has the level of its path
pub level_given : (d : View) (q : List ℕ) (found : Bool) (before after : PageValue) → HasLevels d → live (copies d) q ≡ true → IsGiven d q found before after → after.level ≡ length q
level_given d q found before after levels here given =
    let copy = copied_at d q here in
    ap (λ (page : PageValue). page.level) (given_is d q found before after copy.0 copy.1 copy.2.live given).1 ∙ levels q copy.0 copy.1

-- the page that was given out, with its slots as they are written
pub page_made : (d : View) (placed : List Placed) (q : List ℕ) (found : Bool) (before after : PageValue) → HasLevels d → live (copies d) q ≡ true → IsGiven d q found before after
    → (refs : List ReferenceValue) → refs ≡ flushed_slots d placed q 0 after.refs
    → IsPageFor d placed q (record { level = after.level; modified = after.modified; refs = refs; bytes = after.bytes })
page_made d placed q found before after levels here given refs refs_are =
    let copy = copied_at d q here in
    let c = copy.0 in
    let is : after ≡ c.page = (given_is d q found before after c copy.1 copy.2.live given).1 in
    let level : after.level ≡ length q = ap (λ (page : PageValue). page.level) is ∙ levels q c copy.1 in
    record {
      copy = c;
      here = copy.1;
      live = copy.2.live;
      page_is =
          (λ i. record { level = level i; modified = after.modified; refs = refs_are i; bytes = after.bytes })
          ∙ ap (λ (page : PageValue). flushed_page d placed q page) is;
      level = level;
    }
