-- A draft stands for what it stood for, whatever becomes of blocks that its base does not lead to; and the levels of its base's pages.
use Rattle.std.proofs.Common.{◌≡◌, ℕ, Bool, true, false, List, [], ◌∷◌, ◌++◌, length, Option, Some, None, refl, sym, ap, ◌∙◌}
use Rattle.std.specs.Option.{option_and_then, option_map_or}
use Rattle.tree_model.specs.Trees.{Tree, tree_after}
use Rattle.tree_model.specs.Accesses.{Place, all_writes}
use Rattle.page_codec.specs.Values.{PageValue}
use Rattle.page_places.specs.Places.{Store, Holds, block_at, slot_block}
use Rattle.draft_model.specs.Views.{Copies, copies, live}
use Rattle.draft_model.specs.Stands.{SlotStands, SameBase}
use Rattle.draft_model.specs.Laws.{KeepLaw, LevelLaw}
use Rattle.draft_model.proofs.Ways.{slot_case}

-- the walk down from the root meets the same blocks
pub same_walk : (old new : Store) (root : ℕ) → SameBase old new root → (p : List ℕ) → block_at new root p ≡ block_at old root p
same_walk old new root same [] = refl
same_walk old new root same (s ∷ p) =
    ap (λ page. option_and_then (λ below. block_at new below p) (option_and_then (λ (x : PageValue). slot_block x s) page)) (same [] root refl)
    ∙ by (option_and_then (λ (x : PageValue). slot_block x s) (old root)) refl
    (λ below at. same_walk old new below (λ q b h. same (s ∷ q) b (ap (option_and_then (λ c. block_at old c q)) at ∙ h)) p)
  where
    by : (o : Option ℕ) → option_and_then (λ (x : PageValue). slot_block x s) (old root) ≡ o
        → ((below : ℕ) → option_and_then (λ (x : PageValue). slot_block x s) (old root) ≡ Some below → block_at new below p ≡ block_at old below p)
        → option_and_then (λ below. block_at new below p) o ≡ option_and_then (λ below. block_at old below p) o
    by None is rest = refl
    by (Some below) is rest = rest below is

module _ (old new : Store) (root : ℕ) (same : SameBase old new root) where
  walk : (p : List ℕ) → block_at new root p ≡ block_at old root p
  walk = same_walk old new root same

  -- a tree that was held is held
  pub holds_still : (a : Tree) → Holds old root a → Holds new root a
  holds_still a h = record {
    page = λ p b at.
        let was : block_at old root p ≡ Some b = sym (walk p) ∙ at in
        let page = h.page p b was in
        (page.0, same p b was ∙ page.1, page.2, page.3);
    gone = λ p none. h.gone p (sym (walk p) ∙ none);
  }

  pub slot_still : (a t : Tree) (writes : List Place) (h : Copies) (q : List ℕ) (changed alive : Bool) (o : Option ℕ)
      → SlotStands old root a t writes h q changed alive o → SlotStands new root a t writes h q changed alive o
  slot_still a t writes h q changed true None s = s
  slot_still a t writes h q changed true (Some b) s = walk q ∙ s
  slot_still a t writes h q changed false None s = s
  slot_still a t writes h q changed false (Some b) s = (record { block = walk q ∙ s.0.block; as_base = s.0.as_base; uncopied = s.0.uncopied }, s.1)

pub stands_still : KeepLaw
stands_still old new root a steps d h same = record {
  base = holds_still old new root same a h.base;
  kept = h.kept;
  stands = record {
    shape = record {
      tree = h.stands.shape.tree;
      top = h.stands.shape.top;
      above = h.stands.shape.above;
      data_is = h.stands.shape.data_is;
      level_is = h.stands.shape.level_is;
      slot = λ p s c at. slot_still old new root same _ _ _ (copies d) _ _ _ _ (h.stands.shape.slot p s c at);
      slots = h.stands.shape.slots;
    };
    read = h.stands.read;
    written = h.stands.written;
  };
}

-- ---- the pages of a base

page_is : (x y : PageValue) → Some x ≡ Some y → x ≡ y
page_is x y e = ap (λ (o : Option PageValue). option_map_or (λ (c : PageValue). c) o x) e

pub wanted_level : LevelLaw
wanted_level store root a steps d end q b page was W holds =
    let stands = slot_case store root a (tree_after a steps) (all_writes a steps) (copies d) was.stands.shape W.above W.last W.copy W.at false (Some b)
    (ap (live (copies d)) (sym W.is) ∙ W.not_yet) W.block in
    let found = was.base.page (W.above ++ W.last ∷ []) b stands.0.block in
    ap (λ (x : PageValue). x.level) (page_is page found.0 (sym holds ∙ found.1)) ∙ found.3 ∙ ap length (sym W.is)
