-- The marks that a step sets, one after the other, are those of the step.
use Rattle.std.proofs.Common.{◌≡◌, ℕ, zero, suc, ◌+◌, ◌^◌, ◌<◌, ◌≤◌, Bool, true, false, not, ◌&&◌, ◌||◌, cond, List, length, ◌⊎◌, inl, inr, refl, sym, ap, subst, ◌∙◌, Option, Some, None, option_map, slice_set, sum_by, arith, pow-suc, pow_mono, lit<}
use Rattle.std.specs.Int.RustNames.{bit_or}
use Rattle.std.specs.Int.Bits.{or_zero_r}
use Rattle.std.proofs.lemmas.List.Sums.{sum_by_push}
use Rattle.afs_base.specs.Path.{is_prefix}
use Rattle.tree_model.specs.Children.{path_of}
use Rattle.tree_model.specs.Trees.{numbers_below}
use Rattle.tree_model.specs.declared.step.Step.{Step}
use Rattle.tree_model.specs.declared.step.Step.TheVariants.{ReadAt, ListAt, WriteAt, MakeAt, DropAt}
use Rattle.tree_model.proofs.Paths.{told, false_if, same_is, prefix_self, child_above}
use Rattle.page_codec.specs.Values.{PageValue}
use Rattle.page_codec.specs.Blank.{empty_reference}
use Rattle.page_places.specs.Places.{same}
use Rattle.draft_model.specs.Views.{Copied, View, Copies, copies}
use Rattle.draft_model.specs.Steps.{makes, is_there, there_bit, way_bit, is_made, taken, made, stepped}
use Rattle.draft_model.proofs.Facts.{or_false, and_true, and_false}
use Rattle.draft_tree.specs.Marking.{searched_more, searched_all, data_read, data_written, child_made, child_dropped, taken_away}
use Rattle.draft_tree.specs.Pages.{changed, put, searched_to, cut_below}
use Rattle.draft_tree.proofs.Ways.{way_self, way_below, searched_zero}

-- a change and then the way, at one page
abbrev pub changed_then_way : View → List ℕ → (Copied → Copied) → List ℕ → View
changed_then_way d q f target = searched_to (changed d q f) target

kept_live : (l : Bool) → l ≡ (l && not false)
kept_live l = sym (and_true l)

-- ---- read

read_page : (b : Bool) (w : ℕ) (c : Copied)
    → searched_more w (cond b (data_read c) c)
    ≡ record {
      live = c.live && not false;
      read = c.read || ((c.live && b) && not c.written);
      written = c.written || (c.live && false);
      searched = cond c.live (bit_or c.searched w) c.searched;
      page = c.page;
    }
read_page true w c = λ i. record {
  live = kept_live c.live i;
  read = c.read || (sym (and_true c.live) i && not c.written);
  written = sym (ap (λ x. c.written || x) (and_false c.live) ∙ or_false c.written) i;
  searched = cond c.live (bit_or c.searched w) c.searched;
  page = c.page;
}
read_page false w c = λ i. record {
  live = kept_live c.live i;
  read = sym (ap (λ x. c.read || (x && not c.written)) (and_false c.live) ∙ or_false c.read) i;
  written = sym (ap (λ x. c.written || x) (and_false c.live) ∙ or_false c.written) i;
  searched = cond c.live (bit_or c.searched w) c.searched;
  page = c.page;
}

-- a change at one path and then one of every page is one change of every page
both_at : (b : Bool) (f g : Copied → Copied) (o : Option Copied) → option_map g (cond b (option_map f o) o) ≡ option_map (λ c. g (cond b (f c) c)) o
both_at true f g None = refl
both_at true f g (Some c) = refl
both_at false f g None = refl
both_at false f g (Some c) = refl

pages_same : (f g : Copied → Copied) (o : Option Copied) → ((c : Copied) → f c ≡ g c) → option_map f o ≡ option_map g o
pages_same f g None h = refl
pages_same f g (Some c) h = ap (λ (x : Copied). Some x) (h c)

pub read_done : (d : View) (q p : List ℕ) → changed_then_way d q data_read q p ≡ stepped d (ReadAt q) p
read_done d q p =
    both_at (same p q) data_read (searched_more (way_bit p q)) (d p)
    ∙ pages_same _ _ (d p) (read_page (same p q) (way_bit p q))

-- ---- list

list_page : (b : Bool) (w : ℕ) (c : Copied) → (b ≡ true → w ≡ 0)
    → searched_more w (cond b (searched_all c) c)
    ≡ record {
      live = c.live && not false;
      read = c.read || ((c.live && false) && not c.written);
      written = c.written || (c.live && false);
      searched = cond c.live (cond b 65535 (bit_or c.searched w)) c.searched;
      page = c.page;
    }
list_page b w c none = λ i. record {
  live = shown_live b i;
  read = shown_read b i;
  written = shown_written b i;
  searched = shown_searched b none i;
  page = shown_page b i;
}
  where
    shown_live : (b : Bool) → (searched_more w (cond b (searched_all c) c)).live ≡ (c.live && not false)
    shown_live true = kept_live c.live
    shown_live false = kept_live c.live

    shown_read : (b : Bool) → (searched_more w (cond b (searched_all c) c)).read ≡ (c.read || ((c.live && false) && not c.written))
    shown_read true = sym (ap (λ x. c.read || (x && not c.written)) (and_false c.live) ∙ or_false c.read)
    shown_read false = sym (ap (λ x. c.read || (x && not c.written)) (and_false c.live) ∙ or_false c.read)

    shown_written : (b : Bool) → (searched_more w (cond b (searched_all c) c)).written ≡ (c.written || (c.live && false))
    shown_written true = sym (ap (λ x. c.written || x) (and_false c.live) ∙ or_false c.written)
    shown_written false = sym (ap (λ x. c.written || x) (and_false c.live) ∙ or_false c.written)

    by : (l : Bool) → w ≡ 0 → cond l (bit_or (cond l 65535 c.searched) w) (cond l 65535 c.searched) ≡ cond l 65535 c.searched
    by true e = ap (bit_or 65535) e ∙ or_zero_r 65535
    by false e = refl

    shown_searched : (b : Bool) → (b ≡ true → w ≡ 0) → (searched_more w (cond b (searched_all c) c)).searched ≡ cond c.live (cond b 65535 (bit_or c.searched w)) c.searched
    shown_searched true e = by c.live (e refl)
    shown_searched false e = refl

    shown_page : (b : Bool) → (searched_more w (cond b (searched_all c) c)).page ≡ c.page
    shown_page true = refl
    shown_page false = refl

way_here : (p q : List ℕ) → same p q ≡ true → way_bit p q ≡ 0
way_here p q h = ap (λ x. way_bit x q) (same_is p q h) ∙ way_self q

pub list_done : (d : View) (q p : List ℕ) → changed_then_way d q searched_all q p ≡ stepped d (ListAt q) p
list_done d q p =
    both_at (same p q) searched_all (searched_more (way_bit p q)) (d p)
    ∙ pages_same _ _ (d p) (λ c. list_page (same p q) (way_bit p q) c (way_here p q))

-- ---- write

write_page : (b : Bool) (w : ℕ) (bytes : List ℕ) (c : Copied)
    → searched_more w (cond b (data_written bytes c) c)
    ≡ record {
      live = c.live && not false;
      read = c.read || ((c.live && false) && not c.written);
      written = c.written || (c.live && b);
      searched = cond c.live (bit_or c.searched w) c.searched;
      page = record { level = c.page.level; modified = c.page.modified; refs = c.page.refs; bytes = cond (c.live && b) bytes c.page.bytes };
    }
write_page true w bytes c = λ i. record {
  live = kept_live c.live i;
  read = sym (ap (λ x. c.read || (x && not c.written)) (and_false c.live) ∙ or_false c.read) i;
  written = c.written || sym (and_true c.live) i;
  searched = cond c.live (bit_or c.searched w) c.searched;
  page = record { level = c.page.level; modified = c.page.modified; refs = c.page.refs; bytes = cond (sym (and_true c.live) i) bytes c.page.bytes };
}
write_page false w bytes c = λ i. record {
  live = kept_live c.live i;
  read = sym (ap (λ x. c.read || (x && not c.written)) (and_false c.live) ∙ or_false c.read) i;
  written = sym (ap (λ x. c.written || x) (and_false c.live) ∙ or_false c.written) i;
  searched = cond c.live (bit_or c.searched w) c.searched;
  page = record { level = c.page.level; modified = c.page.modified; refs = c.page.refs; bytes = cond (sym (and_false c.live) i) bytes c.page.bytes };
}

pub write_done : (d : View) (q bytes p : List ℕ) → changed_then_way d q (data_written bytes) q p ≡ stepped d (WriteAt q bytes) p
write_done d q bytes p =
    both_at (same p q) (data_written bytes) (searched_more (way_bit p q)) (d p)
    ∙ pages_same _ _ (d p) (write_page (same p q) (way_bit p q) bytes)

-- ---- a make

-- a step that does or does not act
abbrev pub stepped_as : Bool → View → Step → View
stepped_as done d step p = cond (is_made done step p) (Some (made (length p) (d p))) (option_map (taken done step p) (d p))

-- only the way was marked
way_page : (w : ℕ) (c : Copied)
    → searched_more w c
    ≡ record {
      live = c.live && not false;
      read = c.read || ((c.live && false) && not c.written);
      written = c.written || (c.live && false);
      searched = cond c.live (bit_or c.searched w) c.searched;
      page = c.page;
    }
way_page w c = λ i. record {
  live = kept_live c.live i;
  read = sym (ap (λ x. c.read || (x && not c.written)) (and_false c.live) ∙ or_false c.read) i;
  written = sym (ap (λ x. c.written || x) (and_false c.live) ∙ or_false c.written) i;
  searched = cond c.live (bit_or c.searched w) c.searched;
  page = c.page;
}

pub unmade : (d : View) (x : List ℕ × ℕ) (p : List ℕ) → makes (copies d) x ≡ false → searched_to d (path_of x) p ≡ stepped d (MakeAt x) p
unmade d x p e = pages_same _ _ (d p) (way_page (way_bit p (path_of x))) ∙ ap (λ b. stepped_as b d (MakeAt x) p) (sym e)

pub undropped : (d : View) (x : List ℕ × ℕ) (p : List ℕ) → is_there (copies d) x ≡ false → searched_to d (path_of x) p ≡ stepped d (DropAt x) p
undropped d x p e = pages_same _ _ (d p) (way_page (way_bit p (path_of x))) ∙ ap (λ b. stepped_as b d (DropAt x) p) (sym e)

-- a page marked as the parent, or another page
parent_page : (b : Bool) (w s : ℕ) (c : Copied)
    → searched_more w (cond b (child_made s c) c)
    ≡ record {
      live = c.live && not false;
      read = c.read || ((c.live && false) && not c.written);
      written = c.written || (c.live && false);
      searched = cond c.live (bit_or c.searched w) c.searched;
      page = record { level = c.page.level; modified = cond b (bit_or c.page.modified (2 ^ s)) c.page.modified; refs = c.page.refs; bytes = c.page.bytes };
    }
parent_page true w s c = way_page w (child_made s c)
parent_page false w s c = way_page w c

above_apart : (x : List ℕ × ℕ) (p : List ℕ) → same p (path_of x) ≡ true → same p x.0 ≡ false
above_apart x p e = false_if (same p x.0) (λ h.
    sym (child_above x.0 x.1)
    ∙ ap (is_prefix (path_of x)) (sym (same_is p x.0 h) ∙ same_is p (path_of x) e)
    ∙ prefix_self (path_of x))

pub made_done : (d : View) (x : List ℕ × ℕ) (c : Copied) (p : List ℕ) → makes (copies d) x ≡ true → c ≡ made (length (path_of x)) (d (path_of x))
    → searched_to (changed (put d (path_of x) c) x.0 (child_made x.1)) (path_of x) p ≡ stepped d (MakeAt x) p
made_done d x c p acts_now is = by (told (same p (path_of x))) ∙ ap (λ b. stepped_as b d (MakeAt x) p) (sym acts_now)
  where
    there : same p (path_of x) ≡ true → same p x.0 ≡ false
        → searched_to (changed (put d (path_of x) c) x.0 (child_made x.1)) (path_of x) p ≡ Some (made (length p) (d p))
    there e apart =
        ap (λ b. option_map (searched_more (way_bit p (path_of x))) (cond b (option_map (child_made x.1) (put d (path_of x) c p)) (put d (path_of x) c p))) apart
        ∙ ap (λ b. option_map (searched_more (way_bit p (path_of x))) (cond b (Some c) (d p))) e
        ∙ ap (λ n. Some (searched_more n c)) (way_here p (path_of x) e)
        ∙ ap (λ (y : Copied). Some y) (searched_zero c ∙ is)
        ∙ ap (λ y. Some (made (length y) (d y))) (sym (same_is p (path_of x) e))

    by : (same p (path_of x) ≡ true) ⊎ (same p (path_of x) ≡ false)
        → searched_to (changed (put d (path_of x) c) x.0 (child_made x.1)) (path_of x) p ≡ stepped_as true d (MakeAt x) p
    by (inl e) = there e (above_apart x p e) ∙ sym (ap (λ b. cond b (Some (made (length p) (d p))) (option_map (taken true (MakeAt x) p) (d p))) e)
    by (inr e) =
        ap (λ b. option_map (searched_more (way_bit p (path_of x))) (cond (same p x.0) (option_map (child_made x.1) (cond b (Some c) (d p))) (cond b (Some c) (d p)))) e
        ∙ both_at (same p x.0) (child_made x.1) (searched_more (way_bit p (path_of x))) (d p)
        ∙ pages_same _ _ (d p) (parent_page (same p x.0) (way_bit p (path_of x)) x.1)
        ∙ sym (ap (λ b. cond b (Some (made (length p) (d p))) (option_map (taken true (MakeAt x) p) (d p))) e)

-- ---- a drop

drop_page : (b k : Bool) (w s : ℕ) (c : Copied) → (k ≡ true → w ≡ 0)
    → searched_more w (cond k (taken_away (cond b (child_dropped s c) c)) (cond b (child_dropped s c) c))
    ≡ record {
      live = c.live && not k;
      read = c.read || ((c.live && false) && not c.written);
      written = c.written || (c.live && false);
      searched = cond c.live (bit_or c.searched w) c.searched;
      page = record {
        level = c.page.level;
        modified = cond b (bit_or c.page.modified (2 ^ s)) c.page.modified;
        refs = cond b (slice_set c.page.refs s empty_reference) c.page.refs;
        bytes = c.page.bytes;
      };
    }
drop_page b true w s c none = away b
  where
    nothing : (l : Bool) → c.searched ≡ cond l (bit_or c.searched w) c.searched
    nothing true = sym (ap (bit_or c.searched) (none refl) ∙ or_zero_r c.searched)
    nothing false = refl

    away_as : (y : PageValue)
        → searched_more w (record { live = false; read = c.read; written = c.written; searched = c.searched; page = y })
        ≡ record {
          live = c.live && not true;
          read = c.read || ((c.live && false) && not c.written);
          written = c.written || (c.live && false);
          searched = cond c.live (bit_or c.searched w) c.searched;
          page = y;
        }
    away_as y = λ i. record {
      live = sym (and_false c.live) i;
      read = sym (ap (λ x. c.read || (x && not c.written)) (and_false c.live) ∙ or_false c.read) i;
      written = sym (ap (λ x. c.written || x) (and_false c.live) ∙ or_false c.written) i;
      searched = nothing c.live i;
      page = y;
    }

    away : (b : Bool)
        → searched_more w (taken_away (cond b (child_dropped s c) c))
        ≡ record {
          live = c.live && not true;
          read = c.read || ((c.live && false) && not c.written);
          written = c.written || (c.live && false);
          searched = cond c.live (bit_or c.searched w) c.searched;
          page = record {
            level = c.page.level;
            modified = cond b (bit_or c.page.modified (2 ^ s)) c.page.modified;
            refs = cond b (slice_set c.page.refs s empty_reference) c.page.refs;
            bytes = c.page.bytes;
          };
        }
    away true = away_as (record { level = c.page.level; modified = bit_or c.page.modified (2 ^ s); refs = slice_set c.page.refs s empty_reference; bytes = c.page.bytes })
    away false = away_as c.page
drop_page true false w s c none = way_page w (child_dropped s c)
drop_page false false w s c none = way_page w c

three_at : (b k : Bool) (f g h : Copied → Copied) (o : Option Copied)
    → option_map h (cond k (option_map g (cond b (option_map f o) o)) (cond b (option_map f o) o)) ≡ option_map (λ c. h (cond k (g (cond b (f c) c)) (cond b (f c) c))) o
three_at true true f g h None = refl
three_at true true f g h (Some c) = refl
three_at true false f g h None = refl
three_at true false f g h (Some c) = refl
three_at false true f g h None = refl
three_at false true f g h (Some c) = refl
three_at false false f g h None = refl
three_at false false f g h (Some c) = refl

pub dropped_done : (d : View) (x : List ℕ × ℕ) (p : List ℕ) → is_there (copies d) x ≡ true
    → searched_to (cut_below (changed d x.0 (child_dropped x.1)) (path_of x)) (path_of x) p ≡ stepped d (DropAt x) p
dropped_done d x p acts_now =
    three_at (same p x.0) (is_prefix (path_of x) p) (child_dropped x.1) taken_away (searched_more (way_bit p (path_of x))) (d p)
    ∙ pages_same _ _ (d p) (λ c. drop_page (same p x.0) (is_prefix (path_of x) p) (way_bit p (path_of x)) x.1 c (way_below p (path_of x)))
    ∙ ap (λ b. stepped_as b d (DropAt x) p) (sym acts_now)

-- ---- the slots of a list

abbrev pub bits_below : Copies → List ℕ → ℕ → ℕ
bits_below h p n = sum_by (there_bit h p) (numbers_below n)

pub bits_none : (h : Copies) (p : List ℕ) → bits_below h p 0 ≡ 0
unfolding numbers_below
bits_none h p = refl

pub bits_more : (h : Copies) (p : List ℕ) (n : ℕ) → bits_below h p (suc n) ≡ bits_below h p n + there_bit h p n
unfolding numbers_below
bits_more h p n = sum_by_push (there_bit h p) (numbers_below n) n

bit_le : (h : Copies) (p : List ℕ) (n : ℕ) → there_bit h p n ≤ 2 ^ n
bit_le h p n = by (is_there h (p, n))
  where
    by : (b : Bool) → cond b (2 ^ n) 0 ≤ 2 ^ n
    by true = omega arith
    by false = omega arith

bits_lt : (h : Copies) (p : List ℕ) (n : ℕ) → bits_below h p n < 2 ^ n
bits_lt h p zero = let F : ℕ → Type 0 = λ m. m < 1 in subst F (sym (bits_none h p)) (lit< tt)
bits_lt h p (suc n) = omega (arith, bits_lt h p n, bit_le h p n, bits_more h p n, pow-suc 2 n)

-- with one slot more they still fit sixteen bits
pub bits_fit : (h : Copies) (p : List ℕ) (n : ℕ) → n < 16 → bits_below h p n + there_bit h p n < 65536
bits_fit h p n low =
    let below : bits_below h p (suc n) < 2 ^ suc n = bits_lt h p (suc n) in
    let most : 2 ^ suc n ≤ 2 ^ 16 = pow_mono {i = suc n} {j = 16} (omega arith) in
    omega (arith, bits_more h p n)
