-- What is read keeps what the type of scripts keeps.
use Rattle.std.proofs.Common.{◌≡◌, ℕ, zero, suc, ◌+◌, ◌<◌, ◌≤◌, Bool, true, false, cond, ◌&&◌, leb, ltb, eqb, List, [], ◌∷◌, length, get_or, Option, Some, None, Result, Ok, Err, refl, ap, subst, arith}
use Rattle.std.specs.Option.{option_map, ok_or}
use Rattle.std.specs.List.{All, AllPairs, filter_map, cons_option, list_all}
use Rattle.std.proofs.lemmas.Bool.{leb-true, ltb-false}
use Rattle.std.proofs.lemmas.List.Elements.{All-cons}
use Rattle.tree_model.specs.declared.step.Step.TheVariants.{ReadAt, ListAt, WriteAt, MakeAt, DropAt}
use Rattle.script_text.specs.declared.command.FileName.{FileName}
use Rattle.script_text.specs.declared.command.FileName.TheVariants.{Number, Cap}
use Rattle.script_text.specs.declared.command.Command.{Command}
use Rattle.script_text.specs.declared.command.Command.TheVariants.{Begin, Super, Pick, Do, Commit, Abandon, Create, Destroy, Prune, Restrict}
use Rattle.script_text.specs.declared.keyword.Keyword.{Keyword}
use Rattle.script_text.specs.declared.keyword.Keyword.TheVariants.{BeginWord, SuperWord, PickWord, ReadWord, ListWord, WriteWord, MakeWord, DropWord, CommitWord, AbandonWord, CreateWord, DestroyWord, PruneWord, RestrictWord}
use Rattle.script_text.specs.declared.refused.LineWhy.{LineWhy}
use Rattle.script_text.specs.declared.refused.LineWhy.TheVariants as why
use Rattle.script_text.specs.declared.script.Mode.{Mode}
use Rattle.script_text.specs.declared.script.Mode.TheVariants.{Numbers, Caps}
use Rattle.script_text.specs.declared.script.Line.{Line}
use Rattle.script_text.specs.Words.{number_in, is_number, value_of, cap_of, words, is_allowed}
use Rattle.script_text.specs.Grammar.{RawLine, raw_lines, raw_line, line_of, good_of, good_when, words_command, keyed_command, keyword_of, command_of, is_shape, is_guarded, then_ok, and_then, file_word, file_words, number_word, path_word, child_word, data_word, word_at}
use Rattle.script_text.specs.ScriptValue.{IsFile, IsCommand, IsLine, IsScript}

-- what is made of a value keeps Q, where it does so of each value that there may be
then_ok_keeps : {A B : Type 0} (f : A → B) (Q : B → Type 0) (r : Result A LineWhy) (y : B)
    → ((x : A) → r ≡ Ok x → Q (f x)) → then_ok f r ≡ Ok y → Q y
then_ok_keeps {A} {B} f Q (Ok x) y h e = let same : f x ≡ y = cc in subst Q same (h x refl)
then_ok_keeps f Q (Err w) y h e = cc

-- a second step keeps Q, where it does so on each value of the first
and_then_keeps : {A B : Type 0} (f : A → Result B LineWhy) (Q : B → Type 0) (r : Result A LineWhy) (y : B)
    → ((x : A) → r ≡ Ok x → f x ≡ Ok y → Q y) → and_then f r ≡ Ok y → Q y
and_then_keeps f Q (Ok x) y h e = h x refl e
and_then_keeps f Q (Err w) y h e = cc

-- a number that is read is in its range
number_in_range : (low high : ℕ) (word : List ℕ) (n : ℕ) → number_in low high word ≡ Some n → (low ≤ n) × (n ≤ high)
number_in_range low high word n e =
    ranged (is_number word) (leb low (value_of word)) (leb (value_of word) high) refl refl e
  where
    ranged : (a b c : Bool) → leb low (value_of word) ≡ b → leb (value_of word) high ≡ c
        → cond (a && (b && c)) (Some (value_of word)) None ≡ Some n → (low ≤ n) × (n ≤ high)
    ranged true true true p q h =
        let same : value_of word ≡ n = cc in
        let above = leb-true low (value_of word) p in
        let below = leb-true (value_of word) high q in
        (omega arith, omega arith)
    ranged true true false p q h = cc
    ranged true false c p q h = cc
    ranged false b c p q h = cc

some_of : {A : Type 0} (o : Option A) (e : LineWhy) (x : A) → ok_or o e ≡ Ok x → o ≡ Some x
some_of (Some y) e x h = cc
some_of None e x h = cc

number_word_range : (low high : ℕ) (word : List ℕ) (n : ℕ) → number_word low high word ≡ Ok n → (low ≤ n) × (n ≤ high)
number_word_range low high word n e = number_in_range low high word n (some_of (number_in low high word) why.Number n e)

-- a file that is read is named in the mode's way
file_sound : (mode : Mode) (word : List ℕ) (file : FileName) → file_word mode word ≡ Ok file → IsFile mode file
file_sound Numbers word file e = mapped (number_in 1 4032 word) refl (some_of (option_map Number (number_in 1 4032 word)) why.Number file e)
  where
    mapped : (o : Option ℕ) → number_in 1 4032 word ≡ o → option_map Number o ≡ Some file → IsFile Numbers file
    mapped (Some n) p q = let same : Number n ≡ file = cc in subst (IsFile Numbers) same (number_in_range 1 4032 word n p)
    mapped None p q = cc
file_sound Caps word file e = mapped (cap_of word) (some_of (option_map Cap (cap_of word)) why.Capability file e)
  where
    mapped : (o : Option (List ℕ)) → option_map Cap o ≡ Some file → IsFile Caps file
    mapped (Some c) q = let same : Cap c ≡ file = cc in subst (IsFile Caps) same tt
    mapped None q = cc

-- files that are read are as many as the words, each named in the mode's way
files_sound : (mode : Mode) (words : List (List ℕ)) (files : List FileName) → file_words mode words ≡ Ok files
    → (length files ≡ length words) × All (IsFile mode) files
files_sound mode [] files e =
    let same : [] ≡ files = cc in
    let P : List FileName → Type 0 = λ fs. (length fs ≡ 0) × All (IsFile mode) fs in
    subst P same (refl, λ k d h. absurd (omega arith))
files_sound mode (w ∷ ws) files e =
    let P : List FileName → Type 0 = λ fs. (length fs ≡ length (w ∷ ws)) × All (IsFile mode) fs in
    and_then_keeps (λ f. then_ok (λ fs. f ∷ fs) (file_words mode ws)) P (file_word mode w) files
    (λ f first more. then_ok_keeps (λ fs. f ∷ fs) P (file_words mode ws) files
    (λ fs rest. let r = files_sound mode ws fs rest in
    (ap suc r.0, All-cons (IsFile mode) f fs (file_sound mode w f first) r.1))
    more)
    e

-- the files of a `super` are two to seventeen
two_to_seventeen : (n : ℕ) → (leb 2 n && leb n 17) ≡ true → (2 ≤ n) × (n ≤ 17)
two_to_seventeen n e = both (leb 2 n) (leb n 17) refl refl e
  where
    both : (a b : Bool) → leb 2 n ≡ a → leb n 17 ≡ b → (a && b) ≡ true → (2 ≤ n) × (n ≤ 17)
    both true true p q h = (leb-true 2 n p, leb-true n 17 q)
    both true false p q h = cc
    both false b p q h = cc

guarded : (mode : Mode) (b : Bool) → (is_guarded mode && b) ≡ true → mode ≡ Caps
guarded Numbers b h = cc
guarded Caps b h = refl

-- a command that is read is one of its mode
command_sound : (mode : Mode) (key : Keyword) (args : List (List ℕ)) (command : Command)
    → is_shape mode key args ≡ true → command_of mode key args ≡ Ok command → IsCommand mode command
command_sound mode BeginWord args command shape e =
    then_ok_keeps Begin (IsCommand mode) (file_word mode (word_at args 0)) command (file_sound mode (word_at args 0)) e
command_sound mode SuperWord args command shape e =
    then_ok_keeps Super (IsCommand mode) (file_words mode args) command
    (λ fs read. let r = files_sound mode args fs read in
    let size = two_to_seventeen (length args) shape in
    (omega (arith, r.0, size.0), omega (arith, r.0, size.1), r.1))
    e
command_sound mode PickWord args command shape e =
    then_ok_keeps Pick (IsCommand mode) (number_word 0 16 (word_at args 0)) command
    (λ n read. (number_word_range 0 16 (word_at args 0) n read).1) e
command_sound mode ReadWord args command shape e =
    then_ok_keeps (λ p. Do (ReadAt p)) (IsCommand mode) (path_word (word_at args 0)) command (λ p read. tt) e
command_sound mode ListWord args command shape e =
    then_ok_keeps (λ p. Do (ListAt p)) (IsCommand mode) (path_word (word_at args 0)) command (λ p read. tt) e
command_sound mode WriteWord args command shape e =
    and_then_keeps (λ p. then_ok (λ bytes. Do (WriteAt p bytes)) (data_word (word_at args 1))) (IsCommand mode) (path_word (word_at args 0)) command
    (λ p read. then_ok_keeps (λ bytes. Do (WriteAt p bytes)) (IsCommand mode) (data_word (word_at args 1)) command (λ bytes also. tt)) e
command_sound mode MakeWord args command shape e =
    then_ok_keeps (λ c. Do (MakeAt c)) (IsCommand mode) (child_word (word_at args 0)) command (λ c read. tt) e
command_sound mode DropWord args command shape e =
    then_ok_keeps (λ c. Do (DropAt c)) (IsCommand mode) (child_word (word_at args 0)) command (λ c read. tt) e
command_sound mode CommitWord args command shape e = let same : Commit ≡ command = cc in subst (IsCommand mode) same tt
command_sound mode AbandonWord args command shape e = let same : Abandon ≡ command = cc in subst (IsCommand mode) same tt
command_sound mode CreateWord args command shape e = let same : Create ≡ command = cc in subst (IsCommand mode) same tt
command_sound mode DestroyWord args command shape e =
    then_ok_keeps Destroy (IsCommand mode) (file_word mode (word_at args 0)) command (file_sound mode (word_at args 0)) e
command_sound mode PruneWord args command shape e =
    and_then_keeps (λ f. then_ok (λ n. Prune f n) (number_word 1 65535 (word_at args 2))) (IsCommand mode) (file_word mode (word_at args 0)) command
    (λ f read. then_ok_keeps (λ n. Prune f n) (IsCommand mode) (number_word 1 65535 (word_at args 2)) command
    (λ n also. (file_sound mode (word_at args 0) f read, (number_word_range 1 65535 (word_at args 2) n also).0)))
    e
command_sound mode RestrictWord args command shape e =
    and_then_keeps (λ f. then_ok (λ n. Restrict f n) (number_word 0 255 (word_at args 1))) (IsCommand mode) (file_word mode (word_at args 0)) command
    (λ f read. then_ok_keeps (λ n. Restrict f n) (IsCommand mode) (number_word 0 255 (word_at args 1)) command
    (λ n also. (guarded mode (eqb (length args) 2) shape, file_sound mode (word_at args 0) f read)))
    e

keyed_sound : (mode : Mode) (key : Option Keyword) (args : List (List ℕ)) (command : Command)
    → keyed_command mode key args ≡ Ok command → IsCommand mode command
keyed_sound mode None args command e = cc
keyed_sound mode (Some key) args command e = shaped (is_shape mode key args) refl e
  where
    shaped : (b : Bool) → is_shape mode key args ≡ b → cond b (command_of mode key args) (Err why.Word) ≡ Ok command
        → IsCommand mode command
    shaped true p h = command_sound mode key args command p h
    shaped false p h = cc

words_sound : (mode : Mode) (ws : List (List ℕ)) (command : Command) → words_command mode ws ≡ Ok (Some command)
    → IsCommand mode command
words_sound mode [] command e = cc
words_sound mode (w ∷ args) command e = commented (eqb (get_or w 0 0) 35) e
  where
    kept : (r : Result Command LineWhy) → then_ok (λ c. Some c) r ≡ Ok (Some command) → r ≡ Ok command
    kept (Ok c) h = cc
    kept (Err x) h = cc

    commented : (b : Bool) → cond b (Ok None) (then_ok (λ c. Some c) (keyed_command mode (keyword_of w) args)) ≡ Ok (Some command)
        → IsCommand mode command
    commented true h = cc
    commented false h = keyed_sound mode (keyword_of w) args command (kept (keyed_command mode (keyword_of w) args) h)

-- a line with an answer is one of the first thousand, and its command is one of the mode
line_sound : (mode : Mode) (raw : RawLine) (command : Command) → line_of mode raw ≡ Ok (Some command)
    → (raw.number ≤ 1000) × IsCommand mode command
line_sound mode raw command e = tried (ltb 1000 raw.number) (ltb 65536 raw.end) (list_all is_allowed raw.text) refl e
  where
    tried : (a b c : Bool) → ltb 1000 raw.number ≡ a
        → cond a (Err why.Lines) (cond b (Err why.Size) (cond c (words_command mode (words raw.text)) (Err why.Text))) ≡ Ok (Some command)
        → (raw.number ≤ 1000) × IsCommand mode command
    tried true b c p h = cc
    tried false true c p h = cc
    tried false false false p h = cc
    tried false false true p h = (ltb-false 1000 raw.number p, words_sound mode (words raw.text) command h)

-- lines whose numbers ascend from `low` to 1,000, each with a command of the mode
abbrev pub AscendFrom : Mode → ℕ → List Line → Type 0
AscendFrom mode low [] = Unit {0}
AscendFrom mode low (l ∷ ls) =
    (low ≤ l.number) × (l.number ≤ 1000) × IsCommand mode l.command × AscendFrom mode (l.number + 1) ls

lower : (mode : Mode) (low less : ℕ) (ls : List Line) → less ≤ low → AscendFrom mode low ls → AscendFrom mode less ls
lower mode low less [] le h = tt
lower mode low less (l ∷ ls) le h = (omega (arith, h.0), h.1, h.2, h.3)

-- one line of a text before others
good_first : (mode : Mode) (raw : RawLine) (rest : List Line) → AscendFrom mode (raw.number + 1) rest
    → AscendFrom mode raw.number (cons_option (good_of mode raw) rest)
good_first mode raw rest h = by_line (line_of mode raw) refl
  where
    later : AscendFrom mode raw.number rest
    later = lower mode (raw.number + 1) raw.number rest (omega arith) h

    by_line : (r : Result (Option Command) LineWhy) → line_of mode raw ≡ r
        → AscendFrom mode raw.number (cons_option (good_when raw.number r) rest)
    by_line (Ok None) p = later
    by_line (Ok (Some c)) p = let s = line_sound mode raw c p in (omega arith, s.0, s.1, h)
    by_line (Err w) p = later

-- the lines of pieces ascend
ascend : (mode : Mode) (n start : ℕ) (ps : List (List ℕ)) → AscendFrom mode n (filter_map (good_of mode) (raw_lines n start ps))
ascend mode n start [] = tt
ascend mode n start (piece ∷ []) = by_length (eqb (length piece) 0)
  where
    by_length : (b : Bool) → AscendFrom mode n (filter_map (good_of mode) (cond b [] (raw_line n start true piece ∷ [])))
    by_length true = tt
    by_length false = good_first mode (raw_line n start true piece) [] tt
ascend mode n start (piece ∷ next ∷ more) =
    good_first mode (raw_line n start false piece) (filter_map (good_of mode) (raw_lines (n + 1) (start + length piece + 1) (next ∷ more)))
    (ascend mode (n + 1) (start + length piece + 1) (next ∷ more))

-- what ascends is a line each
each_line : (mode : Mode) (low : ℕ) (ls : List Line) → 1 ≤ low → AscendFrom mode low ls → All (IsLine mode) ls
each_line mode low [] one h = λ k d lt. absurd (omega arith)
each_line mode low (l ∷ ls) one h =
    All-cons (IsLine mode) l ls (omega (arith, h.0), h.1, h.2) (each_line mode (l.number + 1) ls (omega arith) h.3)

-- no number is below `low`
none_below : (mode : Mode) (low : ℕ) (ls : List Line) → AscendFrom mode low ls → All (λ l. low ≤ l.number) ls
none_below mode low [] h = λ k d lt. absurd (omega arith)
none_below mode low (l ∷ ls) h =
    All-cons (λ (a : Line). low ≤ a.number) l ls h.0 (none_below mode low ls (lower mode (l.number + 1) low ls (omega (arith, h.0)) h.3))

-- of two lines the later one has the greater number
pairs_ascend : (mode : Mode) (low : ℕ) (ls : List Line) → AscendFrom mode low ls → AllPairs (λ a b. a.number < b.number) ls
pairs_ascend mode low [] h = λ i j d lt within. absurd (omega arith)
pairs_ascend mode low (l ∷ ls) h = pairs_more l ls (none_below mode (l.number + 1) ls h.3) (pairs_ascend mode (l.number + 1) ls h.3)
  where
    pairs_more : (l : Line) (ls : List Line) → All (λ a. l.number + 1 ≤ a.number) ls → AllPairs (λ a b. a.number < b.number) ls
        → AllPairs (λ a b. a.number < b.number) (l ∷ ls)
    pairs_more l ls first rest i zero d lt within = absurd (omega arith)
    pairs_more l ls first rest zero (suc j) d lt within = omega (arith, first j d (omega arith))
    pairs_more l ls first rest (suc i) (suc j) d lt within = rest i j d (omega arith) (omega arith)

-- there are no more lines than numbers
line_count : (mode : Mode) (low : ℕ) (ls : List Line) → low ≤ 1001 → AscendFrom mode low ls → length ls + low ≤ 1001
line_count mode low [] le h = omega arith
line_count mode low (l ∷ ls) le h =
    omega (arith, line_count mode (l.number + 1) ls (omega (arith, h.1)) h.3, h.0)

-- the lines of pieces that have answers are those of a script
pub IsScript-good_lines : (mode : Mode) (ps : List (List ℕ)) → IsScript mode (filter_map (good_of mode) (raw_lines 1 0 ps))
IsScript-good_lines mode ps =
    let ls : List Line = filter_map (good_of mode) (raw_lines 1 0 ps) in
    let h = ascend mode 1 0 ps in
    record {
      each = each_line mode 1 ls (omega arith) h;
      ascending = pairs_ascend mode 1 ls h;
      few = omega (arith, line_count mode 1 ls (omega arith) h);
    }
