-- A text is read exactly where each of its lines is in the grammar, and its lines then say what was read.
use Rattle.std.proofs.Common.{◌≡◌, ◌⊎◌, inl, inr, ℕ, zero, suc, ◌≤◌, Bool, true, false, cond, ◌&&◌, leb, ltb, List, [], ◌∷◌, get_or, Option, Some, None, Result, Ok, Err, refl, sym, ◌∙◌, ap, subst, arith}
use Rattle.std.specs.List.{All, Contains, cons_option, filter_map, list_all, slice_get}
use Rattle.std.proofs.lemmas.Bool.{leb-true, le-leb, ltb-false, le-ltb, and_parts}
use Rattle.std.proofs.lemmas.List.Elements.{All-contains, All-cons, All-nil}
use Rattle.std.proofs.lemmas.List.Sums.{AllPass-from_list_all, list_all-from_AllPass}
use Rattle.script_text.specs.declared.command.Command.{Command}
use Rattle.script_text.specs.declared.refused.LineWhy.{LineWhy}
use Rattle.script_text.specs.declared.refused.LineWhy.TheVariants as why
use Rattle.script_text.specs.declared.refused.ScriptRefused.{ScriptRefused}
use Rattle.script_text.specs.declared.refused.ScriptRefused.TheVariants.{BadLine, Memory}
use Rattle.script_text.specs.declared.script.Mode.{Mode}
use Rattle.script_text.specs.declared.script.Line.{Line}
use Rattle.script_text.specs.Grammar.{RawLine, bad_lines, bad_of, bad_when, good_lines, good_of, good_when, IsRefusal, line_of, lines_of, words_command}
use Rattle.script_text.specs.Lines.{Asks, IsInForm, IsRefusedFor}
use Rattle.script_text.specs.Says.{IsRemark, Says}
use Rattle.script_text.specs.Words.{is_allowed, words}
use Rattle.script_text.proofs.SaysLemmas.{read-from_remark, read-from_said, remark-from_read, said-from_read}

-- ---- one line

-- a line with an answer or none is in the grammar
pub IsInForm-from_read : (mode : Mode) (raw : RawLine) (o : Option Command) → line_of mode raw ≡ Ok o → IsInForm mode raw
IsInForm-from_read mode raw o e = by (ltb 1000 raw.number) (ltb 65536 raw.end) (list_all is_allowed raw.text) refl refl refl e
  where
    meant : (o : Option Command) → words_command mode (words raw.text) ≡ Ok o → IsRemark (words raw.text) ⊎ ((command : Command) × Says mode (words raw.text) command)
    meant None h = inl (remark-from_read mode (words raw.text) h)
    meant (Some c) h = inr (c, said-from_read mode (words raw.text) c h)

    by : (a b c : Bool) → ltb 1000 raw.number ≡ a → ltb 65536 raw.end ≡ b → list_all is_allowed raw.text ≡ c
        → cond a (Err why.Lines) (cond b (Err why.Size) (cond c (words_command mode (words raw.text)) (Err why.Text))) ≡ Ok o → IsInForm mode raw
    by true b c p q r h = cc
    by false true c p q r h = cc
    by false false false p q r h = cc
    by false false true p q r h = record {
      early = ltb-false 1000 raw.number p;
      within = ltb-false 65536 raw.end q;
      plain = λ k d lt.
          let parts = and_parts (leb 32 (get_or raw.text k d)) (leb (get_or raw.text k d) 126) (AllPass-from_list_all is_allowed raw.text r k d lt) in
          (leb-true 32 (get_or raw.text k d) parts.0, leb-true (get_or raw.text k d) 126 parts.1);
      meaning = meant o h;
    }

-- a line in the grammar is read by its words
words_alone : (mode : Mode) (raw : RawLine) → IsInForm mode raw → line_of mode raw ≡ words_command mode (words raw.text)
words_alone mode raw form =
    by (ltb 1000 raw.number) (ltb 65536 raw.end) (list_all is_allowed raw.text)
    (le-ltb 1000 raw.number form.early) (le-ltb 65536 raw.end form.within)
    (list_all-from_AllPass is_allowed raw.text (λ k d lt. both (get_or raw.text k d) (form.plain k d lt)))
  where
    both : (b : ℕ) → (32 ≤ b) × (b ≤ 126) → is_allowed b ≡ true
    both b h = ap (λ x. x && leb b 126) (le-leb 32 b h.0) ∙ le-leb b 126 h.1

    by : (a b c : Bool) → a ≡ false → b ≡ false → c ≡ true
        → cond a (Err why.Lines) (cond b (Err why.Size) (cond c (words_command mode (words raw.text)) (Err why.Text))) ≡ words_command mode (words raw.text)
    by true b c p q r = cc
    by false true c p q r = cc
    by false false false p q r = cc
    by false false true p q r = refl

-- a line that is refused is not in the grammar
no_form : (mode : Mode) (raw : RawLine) (e : LineWhy) → line_of mode raw ≡ Err e → IsInForm mode raw → ⊥
no_form mode raw e h form = by form.meaning
  where
    read : (o : Option Command) → words_command mode (words raw.text) ≡ Ok o → ⊥
    read o q = let both : Err e ≡ Ok o = sym h ∙ words_alone mode raw form ∙ q in cc

    by : IsRemark (words raw.text) ⊎ ((command : Command) × Says mode (words raw.text) command) → ⊥
    by (inl remark) = read None (read-from_remark mode (words raw.text) remark)
    by (inr says) = read (Some says.0) (read-from_said mode (words raw.text) says.0 says.1)

-- what is read of a line is what its words say
good_said : (mode : Mode) (raw : RawLine) (line : Line) → good_of mode raw ≡ Some line → (raw.number ≡ line.number) × Says mode (words raw.text) line.command
good_said mode raw line e = by (line_of mode raw) refl e
  where
    by : (r : Result (Option Command) LineWhy) → line_of mode raw ≡ r → good_when raw.number r ≡ Some line
        → (raw.number ≡ line.number) × Says mode (words raw.text) line.command
    by (Ok None) p h = cc
    by (Ok (Some c)) p h =
        let made : Line = record { number = raw.number; command = c } in
        let same : made ≡ line = cc in
        let read = sym (words_alone mode raw (IsInForm-from_read mode raw (Some c) p)) ∙ p in
        (ap (λ (l : Line). l.number) same, subst (Says mode (words raw.text)) (ap (λ (l : Line). l.command) same) (said-from_read mode (words raw.text) c read))
    by (Err w) p h = cc

-- what the words of a line in the grammar say is read of it
good_read : (mode : Mode) (raw : RawLine) (line : Line) → IsInForm mode raw → raw.number ≡ line.number → Says mode (words raw.text) line.command
    → good_of mode raw ≡ Some line
good_read mode raw line form same says =
    ap (good_when raw.number) (words_alone mode raw form ∙ read-from_said mode (words raw.text) line.command says)
    ∙ ap (λ (n : ℕ). let l : Line = record { number = n; command = line.command } in Some l) same

-- ---- lists of lines

in_front : {X : Type 0} (x : X) (xs : List X) → Contains (x ∷ xs) x
in_front x xs = (0, omega arith, refl)

in_rest : {X : Type 0} (x : X) (xs : List X) (y : X) → Contains xs y → Contains (x ∷ xs) y
in_rest x xs y (k, lt, is) = (suc k, omega arith, is)

-- an element stands in front, or in the rest
front_or_rest : {X : Type 0} (x : X) (xs : List X) (y : X) → Contains (x ∷ xs) y → (x ≡ y) ⊎ Contains xs y
front_or_rest x xs y (zero, lt, is) = inl is
front_or_rest x xs y (suc k, lt, is) = inr (k, omega arith, is)

-- what a list keeps of another comes from an element of that
kept_from : {X Y : Type 0} (f : X → Option Y) (xs : List X) (y : Y) → Contains (filter_map f xs) y → (x : X) × Contains xs x × (f x ≡ Some y)
kept_from f [] y (k, lt, is) = absurd (omega arith)
kept_from {X} {Y} f (x ∷ xs) y h = by (kept_from f xs y) (f x) refl h
  where
    later : ((z : X) × Contains xs z × (f z ≡ Some y)) → (z : X) × Contains (x ∷ xs) z × (f z ≡ Some y)
    later r = (r.0, in_rest x xs r.0 r.1, r.2)

    by : (Contains (filter_map f xs) y → (z : X) × Contains xs z × (f z ≡ Some y)) → (o : Option Y) → f x ≡ o
        → Contains (cons_option o (filter_map f xs)) y → (z : X) × Contains (x ∷ xs) z × (f z ≡ Some y)
    by rests None p h = later (rests h)
    by rests (Some v) p h = elim (front_or_rest v (filter_map f xs) y h) [
      | inl same ↦ (x, in_front x xs, p ∙ ap (λ w. Some w) same)
      | inr rest ↦ later (rests rest)
    ]

kept_by : {X Y : Type 0} (f : X → Option Y) (xs : List X) (x : X) (y : Y) → Contains xs x → f x ≡ Some y → Contains (filter_map f xs) y
kept_by f [] x y (k, lt, is) e = absurd (omega arith)
kept_by {X} {Y} f (z ∷ zs) x y h e = elim (front_or_rest z zs x h) [
  | inl same ↦ rw (ap f same ∙ e) (in_front y (filter_map f zs))
  | inr rest ↦ either (f z) (kept_by f zs x y rest e)
]
  where
    either : (o : Option Y) → Contains (filter_map f zs) y → Contains (cons_option o (filter_map f zs)) y
    either None k = k
    either (Some v) k = in_rest v (filter_map f zs) y k

-- ---- texts

-- where no line is bad, each is in the grammar
pub All-IsInForm : (mode : Mode) (raws : List RawLine) → filter_map (bad_of mode) raws ≡ [] → All (IsInForm mode) raws
All-IsInForm mode [] e = All-nil (IsInForm mode)
All-IsInForm mode (raw ∷ raws) e = by (All-IsInForm mode raws) (line_of mode raw) refl e
  where
    by : (filter_map (bad_of mode) raws ≡ [] → All (IsInForm mode) raws) → (r : Result (Option Command) LineWhy) → line_of mode raw ≡ r
        → cons_option (bad_when raw.number r) (filter_map (bad_of mode) raws) ≡ [] → All (IsInForm mode) (raw ∷ raws)
    by rests (Ok o) p h = All-cons (IsInForm mode) raw raws (IsInForm-from_read mode raw o p) (rests h)
    by rests (Err w) p h = cc

-- the lines of a text without a bad line are those that its words ask
asked : (mode : Mode) (bytes : List ℕ) (line : Line) → Contains (good_lines mode bytes) line → Asks mode bytes line
asked mode bytes line h =
    let from = kept_from (good_of mode) (lines_of bytes) line h in
    let said = good_said mode from.0 line from.2 in
    (from.0, from.1, said.0, said.1)

answered : (mode : Mode) (bytes : List ℕ) (line : Line) → All (IsInForm mode) (lines_of bytes) → Asks mode bytes line → Contains (good_lines mode bytes) line
answered mode bytes line forms (raw, there, same, says) =
    kept_by (good_of mode) (lines_of bytes) raw line there
    (good_read mode raw line (All-contains (IsInForm mode) (lines_of bytes) raw forms there) same says)

pub says_lines : (mode : Mode) (bytes : List ℕ) (lines : List Line) → lines ≡ good_lines mode bytes → bad_lines mode bytes ≡ [] → (line : Line)
    → (Contains lines line → Asks mode bytes line) × (Asks mode bytes line → Contains lines line)
says_lines mode bytes lines is none line = (
  λ h. asked mode bytes line (subst (λ ls. Contains ls line) is h),
  λ asks. subst (λ ls. Contains ls line) (sym is) (answered mode bytes line (All-IsInForm mode (lines_of bytes) none) asks),
)

-- the line for which a text is refused is not in the grammar
pub refused_for : (mode : Mode) (bytes : List ℕ) (e : ScriptRefused) → IsRefusal e (bad_lines mode bytes) → IsRefusedFor e mode bytes
refused_for mode bytes Memory h = tt
refused_for mode bytes (BadLine line cause) h =
    let from = kept_from (bad_of mode) (lines_of bytes) (line, cause) (first (bad_lines mode bytes) (line, cause) h) in
    let bad = told from.0 from.2 in
    (from.0, from.1, bad.0, bad.1)
  where
    first : {X : Type 0} (xs : List X) (x : X) → slice_get xs 0 ≡ Some x → Contains xs x
    first [] x e = cc
    first (y ∷ ys) x e = let same : y ≡ x = cc in (0, omega arith, same)

    told : (raw : RawLine) → bad_of mode raw ≡ Some (line, cause) → (raw.number ≡ line) × (IsInForm mode raw → ⊥)
    told raw e = by (line_of mode raw) refl e
      where
        by : (r : Result (Option Command) LineWhy) → line_of mode raw ≡ r → bad_when raw.number r ≡ Some (line, cause)
            → (raw.number ≡ line) × (IsInForm mode raw → ⊥)
        by (Ok o) p q = cc
        by (Err w) p q =
            let pair : (raw.number, w) ≡ (line, cause) = cc in
            (ap (λ (x : ℕ × LineWhy). x.0) pair, no_form mode raw w p)
