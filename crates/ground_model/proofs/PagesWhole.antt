-- Every page that a block shows has sixteen slots.
use Rattle.std.proofs.Common.{◌≡◌, ◌==◌, ℕ, Bool, true, false, cond, List, length, Option, Some, None, option_map, refl, sym, ap, ◌∙◌, subst, slice_index}
use Rattle.std.specs.Option.{option_and_then, option_map_or}
use Rattle.page_codec.specs.declared.why.Why.{Why}
use Rattle.page_codec.specs.Values.{PageValue, VersionValue}
use Rattle.page_codec.specs.Numbers.{pieces}
use Rattle.page_codec.specs.Reading.{slots, frame_value, version_value}
use Rattle.page_codec.specs.Causes.{first_cause, cause_or, page_causes, version_causes, page_of, version_of}
use Rattle.draft_model.specs.Flush.{AreWhole}
use Rattle.store_changes.specs.Writes.{Content}
use Rattle.store_model.specs.Laws.{read_of, page_of_block, pages_of}

frame_whole : (b : List ℕ) → length (frame_value b).refs ≡ 16
unfolding frame_value slots pieces
frame_whole b = refl

version_frame : (b : List ℕ) → (version_value b).page ≡ frame_value b
unfolding version_value
version_frame b = refl

page_is : (x y : PageValue) → Some x ≡ Some y → x ≡ y
page_is x y e = ap (λ (o : Option PageValue). option_map_or (λ (p : PageValue). p) o x) e

read_page : (o : Option Why) (x y : PageValue) → read_of (cause_or o x) ≡ Some y → x ≡ y
read_page None x y e = page_is x y e
read_page (Some w) x y e = absurd (cc)

read_version : (o : Option Why) (x : VersionValue) (y : PageValue) → option_map (λ (v : VersionValue). v.page) (read_of (cause_or o x)) ≡ Some y → x.page ≡ y
read_version None x y e = page_is x.page y e
read_version (Some w) x y e = absurd (cc)

block_whole : (bytes : List ℕ) (page : PageValue) → page_of_block bytes ≡ Some page → length page.refs ≡ 16
block_whole bytes page e = by (slice_index bytes 1 == 86) e
  where
    by : (b : Bool) → cond b (option_map (λ (v : VersionValue). v.page) (read_of (version_of bytes))) (read_of (page_of bytes)) ≡ Some page → length page.refs ≡ 16
    by true h =
        let F : PageValue → Type 0 = λ p. length p.refs ≡ 16 in
        subst F (sym (version_frame bytes) ∙ read_version (first_cause (version_causes bytes)) (version_value bytes) page h) (frame_whole bytes)
    by false h =
        let F : PageValue → Type 0 = λ p. length p.refs ≡ 16 in
        subst F (read_page (first_cause (page_causes bytes)) (frame_value bytes) page h) (frame_whole bytes)

pub pages_whole : (content : Content) → AreWhole (pages_of content)
pages_whole content b page e = by (content b) e
  where
    by : (o : Option (List ℕ)) → option_and_then page_of_block o ≡ Some page → length page.refs ≡ 16
    by None h = absurd (cc)
    by (Some bytes) h = block_whole bytes page h
