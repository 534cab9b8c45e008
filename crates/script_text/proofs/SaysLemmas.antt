-- Words are read as a command exactly where they say it.
use Rattle.std.proofs.Common.{◌≡◌, inl, inr, ℕ, ◌<◌, ◌≤◌, ◌^◌, Bool, true, false, cond, ◌&&◌, not, leb, eqb, List, [], ◌∷◌, length, get_or, Option, Some, None, Result, Ok, Err, refl, sym, ◌∙◌, ap, subst, arith, codes}
use Rattle.std.specs.Option.{option_and_then, option_map, ok_or}
use Rattle.std.specs.Result.{result_ok}
use Rattle.std.specs.List.{AllPass, AllZip, position}
use Rattle.std.specs.Str.{bytes_eq}
use Rattle.std.proofs.lemmas.Bool.{leb-true, le-leb, eqb-true, eq-eqb, and_parts, cond-true}
use Rattle.std.proofs.lemmas.Slice.Eq.{bytes_eq-Decides}
use Rattle.std.proofs.lemmas.List.Quantifiers.{position-Some}
use Rattle.hex.specs.Hex.{decode_of, is_hex_digit}
use Rattle.hex.proofs.HexLemmas.{decode_of-ok}
use Rattle.hex.specs.declared.error.FromHexError.{FromHexError}
use Rattle.tree_model.specs.Children.{path_of as path_of_child}
use Rattle.tree_model.specs.declared.step.Step.TheVariants.{ReadAt, ListAt, WriteAt, MakeAt, DropAt}
use Rattle.script_text.specs.declared.command.FileName.{FileName}
use Rattle.script_text.specs.declared.command.FileName.TheVariants.{Number, Cap}
use Rattle.script_text.specs.declared.command.Command.{Command}
use Rattle.script_text.specs.declared.command.Command.TheVariants.{Begin, Super, Pick, Do, Commit, Abandon, Create, Destroy, Prune, Restrict}
use Rattle.script_text.specs.declared.keyword.Keyword.{Keyword}
use Rattle.script_text.specs.declared.keyword.Keyword.TheVariants.{BeginWord, SuperWord, PickWord, ReadWord, ListWord, WriteWord, MakeWord, DropWord, CommitWord, AbandonWord, CreateWord, DestroyWord, PruneWord, RestrictWord}
use Rattle.script_text.specs.declared.refused.LineWhy.{LineWhy}
use Rattle.script_text.specs.declared.refused.LineWhy.TheVariants as why
use Rattle.script_text.specs.declared.script.Mode.{Mode}
use Rattle.script_text.specs.declared.script.Mode.TheVariants.{Numbers, Caps}
use Rattle.script_text.specs.Words.{cap_of, cap_when, child_of, data_of, number_in, path_of}
use Rattle.script_text.specs.Grammar.{words_command, keyed_command, keyword_of, command_of, is_shape, is_guarded, then_ok, and_then, file_word, file_words, number_word, path_word, child_word, data_word, word_at}
use Rattle.script_text.specs.Says.{AreDigitsOf, IsData, IsNameOf, IsNumberIn, IsPath, IsRemark, Says}
use Rattle.script_text.proofs.NumberWords.{IsNumberIn-from_read, read-from_IsNumberIn}
use Rattle.script_text.proofs.HexWords.{AreDigitsOf-from_read, length-digits, read-from_AreDigitsOf}
use Rattle.script_text.proofs.PathWords.{IsPath-from_read, child_read, child_said, read-from_IsPath}

-- ---- single words that are read

some_of : {A : Type 0} (o : Option A) (e : LineWhy) (x : A) → ok_or o e ≡ Ok x → o ≡ Some x
some_of (Some y) e x h = cc
some_of None e x h = cc

-- the value of a second step, and the first step's
then_parts : {A B : Type 0} (f : A → B) (r : Result A LineWhy) (y : B) → then_ok f r ≡ Ok y → (x : A) × (r ≡ Ok x) × (f x ≡ y)
then_parts {A} {B} f (Ok x) y h = let same : f x ≡ y = cc in (x, refl, same)
then_parts f (Err w) y h = cc

and_parts_of : {A B : Type 0} (f : A → Result B LineWhy) (r : Result A LineWhy) (y : B) → and_then f r ≡ Ok y → (x : A) × (r ≡ Ok x) × (f x ≡ Ok y)
and_parts_of f (Ok x) y h = (x, refl, h)
and_parts_of f (Err w) y h = cc

number_said : (low high : ℕ) (word : List ℕ) (n : ℕ) → high < 2 ^ 64 → number_word low high word ≡ Ok n → IsNumberIn low high word n
number_said low high word n fits e = IsNumberIn-from_read low high word n fits (some_of (number_in low high word) why.Number n e)

number_read : (low high : ℕ) (word : List ℕ) (n : ℕ) → high < 2 ^ 64 → IsNumberIn low high word n → number_word low high word ≡ Ok n
number_read low high word n fits says = ap (λ o. ok_or o why.Number) (read-from_IsNumberIn low high word n fits says)

path_said : (word path : List ℕ) → path_word word ≡ Ok path → IsPath word path
path_said word path e = IsPath-from_read word path (some_of (path_of word) why.Path path e)

path_read : (word path : List ℕ) → IsPath word path → path_word word ≡ Ok path
path_read word path says = ap (λ o. ok_or o why.Path) (read-from_IsPath word path says)

page_said : (word : List ℕ) (child : List ℕ × ℕ) → child_word word ≡ Ok child → IsPath word (path_of_child child)
page_said word child e = by (path_of word) refl (some_of (option_and_then child_of (path_of word)) why.Path child e)
  where
    by : (o : Option (List ℕ)) → path_of word ≡ o → option_and_then child_of o ≡ Some child → IsPath word (path_of_child child)
    by None p h = cc
    by (Some path) p h = subst (IsPath word) (child_said path child h) (IsPath-from_read word path p)

page_read : (word : List ℕ) (child : List ℕ × ℕ) → IsPath word (path_of_child child) → child_word word ≡ Ok child
page_read word child says =
    ap (λ o. ok_or (option_and_then child_of o) why.Path) (read-from_IsPath word (path_of_child child) says)
    ∙ ap (λ o. ok_or o why.Path) (child_read (path_of_child child) child refl)

-- bytes that are read
ok_of : (r : Result (List ℕ) FromHexError) (bytes : List ℕ) → result_ok r ≡ Some bytes → r ≡ Ok bytes
ok_of (Ok x) bytes h = cc
ok_of (Err e) bytes h = cc

data_said : (word bytes : List ℕ) → data_word word ≡ Ok bytes → IsData word bytes
data_said word bytes e = by (bytes_eq word (codes "-")) (leb (length word) 1600) refl refl (some_of (data_of word) why.Data bytes e)
  where
    by : (a b : Bool) → bytes_eq word (codes "-") ≡ a → leb (length word) 1600 ≡ b
        → cond a (Some []) (cond b (result_ok (decode_of word)) None) ≡ Some bytes → IsData word bytes
    by true b p q h = let none : bytes ≡ [] = cc in inl ((bytes_eq-Decides word (codes "-")).0 p, none)
    by false true p q h =
        let says = AreDigitsOf-from_read word bytes (ok_of (decode_of word) bytes h) in
        let few = leb-true (length word) 1600 q in
        inr (says, omega (arith, length-digits word bytes says))
    by false false p q h = cc

data_read : (word bytes : List ℕ) → IsData word bytes → data_word word ≡ Ok bytes
data_read word bytes (inl (text, none)) = ap data_word text ∙ ap (λ xs. Ok xs) (sym none)
data_read word bytes (inr (says, few)) = by (bytes_eq word (codes "-")) refl
  where
    read : result_ok (decode_of word) ≡ Some bytes
    read = ap result_ok (read-from_AreDigitsOf word bytes says)

    by : (a : Bool) → bytes_eq word (codes "-") ≡ a
        → ok_or (cond a (Some []) (cond (leb (length word) 1600) (result_ok (decode_of word)) None)) why.Data ≡ Ok bytes
    by true p = absurd (omega (arith, length-digits word bytes says, ap (λ xs. length xs) ((bytes_eq-Decides word (codes "-")).0 p)))
    by false p =
        ap (λ o. ok_or o why.Data) (
        cond-true (leb (length word) 1600) (result_ok (decode_of word)) None (le-leb (length word) 1600 (omega (arith, length-digits word bytes says)))
        ∙ read
        )

-- ---- files

-- no digit is missing
none_bad : (word : List ℕ) → AllPass is_hex_digit word → (o : Option ℕ) → position (λ c. not (is_hex_digit c)) word ≡ o → o ≡ None
none_bad word all None p = refl
none_bad word all (Some k) p =
    let found = position-Some (λ c. not (is_hex_digit c)) word k 0 p in
    absurd (clash (is_hex_digit (get_or word k 0)) (all k 0 found.0) found.1)
  where
    clash : (b : Bool) → b ≡ true → not b ≡ true → ⊥
    clash true p q = cc
    clash false p q = cc

cap_said : (word cap : List ℕ) → cap_of word ≡ Some cap → AreDigitsOf word cap × (length cap ≡ 16)
cap_said word cap e = by (eqb (length word) 32) (position (λ c. not (is_hex_digit c)) word) refl e
  where
    by : (b : Bool) (o : Option ℕ) → eqb (length word) 32 ≡ b → cap_when (cond b o (Some (length word))) word ≡ Some cap
        → AreDigitsOf word cap × (length cap ≡ 16)
    by true None p h =
        let says = AreDigitsOf-from_read word cap (ok_of (decode_of word) cap h) in
        let long = eqb-true (length word) 32 p in
        (says, omega (arith, length-digits word cap says))
    by true (Some k) p h = cc
    by false o p h = cc

cap_read : (word cap : List ℕ) → AreDigitsOf word cap → length cap ≡ 16 → cap_of word ≡ Some cap
cap_read word cap says long =
    let read = read-from_AreDigitsOf word cap says in
    let digits = (decode_of-ok word cap read).1 in
    let size : length word ≡ 32 = omega (arith, length-digits word cap says) in
    ap (λ o. cap_when o word) (
    cond-true (eqb (length word) 32) (position (λ c. not (is_hex_digit c)) word) (Some (length word)) (eq-eqb (length word) 32 size)
    ∙ none_bad word digits (position (λ c. not (is_hex_digit c)) word) refl
    )
    ∙ ap result_ok read

file_said : (mode : Mode) (word : List ℕ) (file : FileName) → file_word mode word ≡ Ok file → IsNameOf mode word file
file_said Numbers word file e = by (number_in 1 4032 word) refl (some_of (option_map Number (number_in 1 4032 word)) why.Number file e)
  where
    by : (o : Option ℕ) → number_in 1 4032 word ≡ o → option_map Number o ≡ Some file → IsNameOf Numbers word file
    by (Some n) p q =
        let same : Number n ≡ file = cc in
        subst (IsNameOf Numbers word) same (IsNumberIn-from_read 1 4032 word n (omega arith) p)
    by None p q = cc
file_said Caps word file e = by (cap_of word) refl (some_of (option_map Cap (cap_of word)) why.Capability file e)
  where
    by : (o : Option (List ℕ)) → cap_of word ≡ o → option_map Cap o ≡ Some file → IsNameOf Caps word file
    by (Some c) p q = let same : Cap c ≡ file = cc in subst (IsNameOf Caps word) same (cap_said word c p)
    by None p q = cc

file_read : (mode : Mode) (word : List ℕ) (file : FileName) → IsNameOf mode word file → file_word mode word ≡ Ok file
file_read Numbers word (Number n) says = ap (λ o. ok_or (option_map Number o) why.Number) (read-from_IsNumberIn 1 4032 word n (omega arith) says)
file_read Numbers word (Cap c) says = absurd says
file_read Caps word (Number n) says = absurd says
file_read Caps word (Cap c) says = ap (λ o. ok_or (option_map Cap o) why.Capability) (cap_read word c says.0 says.1)

files_said : (mode : Mode) (ws : List (List ℕ)) (files : List FileName) → file_words mode ws ≡ Ok files → AllZip (IsNameOf mode) ws files
files_said mode [] files e = let same : [] ≡ files = cc in subst (AllZip (IsNameOf mode) []) same tt
files_said mode (w ∷ ws) files e =
    let first = and_parts_of (λ f. then_ok (λ fs. f ∷ fs) (file_words mode ws)) (file_word mode w) files e in
    let rest = then_parts (λ fs. first.0 ∷ fs) (file_words mode ws) files first.2 in
    subst (AllZip (IsNameOf mode) (w ∷ ws)) rest.2 (file_said mode w first.0 first.1, files_said mode ws rest.0 rest.1)

files_read : (mode : Mode) (ws : List (List ℕ)) (files : List FileName) → AllZip (IsNameOf mode) ws files → file_words mode ws ≡ Ok files
files_read mode [] [] says = refl
files_read mode [] (f ∷ fs) says = absurd says
files_read mode (w ∷ ws) [] says = absurd says
files_read mode (w ∷ ws) (f ∷ fs) says =
    ap (and_then (λ f. then_ok (λ fs. f ∷ fs) (file_words mode ws))) (file_read mode w f says.0)
    ∙ ap (then_ok (λ fs. f ∷ fs)) (files_read mode ws fs says.1)

-- ---- first words

abbrev spelling : Keyword → List ℕ
spelling BeginWord = codes "begin"
spelling SuperWord = codes "super"
spelling PickWord = codes "pick"
spelling ReadWord = codes "read"
spelling ListWord = codes "list"
spelling WriteWord = codes "write"
spelling MakeWord = codes "make"
spelling DropWord = codes "drop"
spelling CommitWord = codes "commit"
spelling AbandonWord = codes "abandon"
spelling CreateWord = codes "create"
spelling DestroyWord = codes "destroy"
spelling PruneWord = codes "prune"
spelling RestrictWord = codes "restrict"

-- one first word, and the others
one_key : (word : List ℕ) (mine key : Keyword) (others : Option Keyword) → (others ≡ Some key → word ≡ spelling key)
    → cond (bytes_eq word (spelling mine)) (Some mine) others ≡ Some key → word ≡ spelling key
one_key word mine key others rest e = by (bytes_eq word (spelling mine)) refl e
  where
    by : (b : Bool) → bytes_eq word (spelling mine) ≡ b → cond b (Some mine) others ≡ Some key → word ≡ spelling key
    by true p h = let same : mine ≡ key = cc in (bytes_eq-Decides word (spelling mine)).0 p ∙ ap spelling same
    by false p h = rest h

key_said : (word : List ℕ) (key : Keyword) → keyword_of word ≡ Some key → word ≡ spelling key
key_said word key =
    one_key word BeginWord key _ (
    one_key word SuperWord key _ (
    one_key word PickWord key _ (
    one_key word ReadWord key _ (
    one_key word ListWord key _ (
    one_key word WriteWord key _ (
    one_key word MakeWord key _ (
    one_key word DropWord key _ (
    one_key word CommitWord key _ (
    one_key word AbandonWord key _ (
    one_key word CreateWord key _ (
    one_key word DestroyWord key _ (
    one_key word PruneWord key _ (
    one_key word RestrictWord key _ (λ none. cc none)
    )))))))))))))

-- ---- the words after the first

no_args : (args : List (List ℕ)) → eqb (length args) 0 ≡ true → args ≡ []
no_args [] h = refl
no_args (a ∷ args) h = absurd (omega (arith, eqb-true (length (a ∷ args)) 0 h))

one_arg : (args : List (List ℕ)) → eqb (length args) 1 ≡ true → args ≡ word_at args 0 ∷ []
one_arg [] h = cc
one_arg (a ∷ []) h = refl
one_arg (a ∷ b ∷ args) h = absurd (omega (arith, eqb-true (length (a ∷ b ∷ args)) 1 h))

two_args : (args : List (List ℕ)) → eqb (length args) 2 ≡ true → args ≡ word_at args 0 ∷ word_at args 1 ∷ []
two_args [] h = cc
two_args (a ∷ []) h = cc
two_args (a ∷ b ∷ []) h = refl
two_args (a ∷ b ∷ c ∷ args) h = absurd (omega (arith, eqb-true (length (a ∷ b ∷ c ∷ args)) 2 h))

three_args : (args : List (List ℕ)) → eqb (length args) 3 ≡ true → args ≡ word_at args 0 ∷ word_at args 1 ∷ word_at args 2 ∷ []
three_args [] h = cc
three_args (a ∷ []) h = cc
three_args (a ∷ b ∷ []) h = cc
three_args (a ∷ b ∷ c ∷ []) h = refl
three_args (a ∷ b ∷ c ∷ d ∷ args) h = absurd (omega (arith, eqb-true (length (a ∷ b ∷ c ∷ d ∷ args)) 3 h))

guarded : (mode : Mode) (b : Bool) → (is_guarded mode && b) ≡ true → (mode ≡ Caps) × (b ≡ true)
guarded Numbers b h = cc
guarded Caps b h = (refl, h)

-- a command that is read is said by its words
command_said : (mode : Mode) (key : Keyword) (args : List (List ℕ)) (command : Command)
    → is_shape mode key args ≡ true → command_of mode key args ≡ Ok command → Says mode (spelling key ∷ args) command
command_said mode BeginWord args command shape e =
    let read = then_parts Begin (file_word mode (word_at args 0)) command e in
    subst (Says mode (codes "begin" ∷ args)) read.2
    (word_at args 0, ap (λ ws. codes "begin" ∷ ws) (one_arg args shape), file_said mode (word_at args 0) read.0 read.1)
command_said mode SuperWord args command shape e =
    let read = then_parts Super (file_words mode args) command e in
    let sizes = and_parts (leb 2 (length args)) (leb (length args) 17) shape in
    subst (Says mode (codes "super" ∷ args)) read.2
    (args, refl, leb-true 2 (length args) sizes.0, leb-true (length args) 17 sizes.1, files_said mode args read.0 read.1)
command_said mode PickWord args command shape e =
    let read = then_parts Pick (number_word 0 16 (word_at args 0)) command e in
    subst (Says mode (codes "pick" ∷ args)) read.2
    (word_at args 0, ap (λ ws. codes "pick" ∷ ws) (one_arg args shape), number_said 0 16 (word_at args 0) read.0 (omega arith) read.1)
command_said mode ReadWord args command shape e =
    let read = then_parts (λ p. Do (ReadAt p)) (path_word (word_at args 0)) command e in
    subst (Says mode (codes "read" ∷ args)) read.2
    (word_at args 0, ap (λ ws. codes "read" ∷ ws) (one_arg args shape), path_said (word_at args 0) read.0 read.1)
command_said mode ListWord args command shape e =
    let read = then_parts (λ p. Do (ListAt p)) (path_word (word_at args 0)) command e in
    subst (Says mode (codes "list" ∷ args)) read.2
    (word_at args 0, ap (λ ws. codes "list" ∷ ws) (one_arg args shape), path_said (word_at args 0) read.0 read.1)
command_said mode WriteWord args command shape e =
    let read = and_parts_of (λ p. then_ok (λ bytes. Do (WriteAt p bytes)) (data_word (word_at args 1))) (path_word (word_at args 0)) command e in
    let more = then_parts (λ bytes. Do (WriteAt read.0 bytes)) (data_word (word_at args 1)) command read.2 in
    subst (Says mode (codes "write" ∷ args)) more.2 (
      word_at args 0,
      word_at args 1,
      ap (λ ws. codes "write" ∷ ws) (two_args args shape),
      path_said (word_at args 0) read.0 read.1,
      data_said (word_at args 1) more.0 more.1,
    )
command_said mode MakeWord args command shape e =
    let read = then_parts (λ c. Do (MakeAt c)) (child_word (word_at args 0)) command e in
    subst (Says mode (codes "make" ∷ args)) read.2
    (word_at args 0, ap (λ ws. codes "make" ∷ ws) (one_arg args shape), page_said (word_at args 0) read.0 read.1)
command_said mode DropWord args command shape e =
    let read = then_parts (λ c. Do (DropAt c)) (child_word (word_at args 0)) command e in
    subst (Says mode (codes "drop" ∷ args)) read.2
    (word_at args 0, ap (λ ws. codes "drop" ∷ ws) (one_arg args shape), page_said (word_at args 0) read.0 read.1)
command_said mode CommitWord args command shape e =
    let same : Commit ≡ command = cc in
    subst (Says mode (codes "commit" ∷ args)) same (ap (λ ws. codes "commit" ∷ ws) (no_args args shape))
command_said mode AbandonWord args command shape e =
    let same : Abandon ≡ command = cc in
    subst (Says mode (codes "abandon" ∷ args)) same (ap (λ ws. codes "abandon" ∷ ws) (no_args args shape))
command_said mode CreateWord args command shape e =
    let same : Create ≡ command = cc in
    subst (Says mode (codes "create" ∷ args)) same (ap (λ ws. codes "create" ∷ ws) (no_args args shape))
command_said mode DestroyWord args command shape e =
    let read = then_parts Destroy (file_word mode (word_at args 0)) command e in
    subst (Says mode (codes "destroy" ∷ args)) read.2
    (word_at args 0, ap (λ ws. codes "destroy" ∷ ws) (one_arg args shape), file_said mode (word_at args 0) read.0 read.1)
command_said mode PruneWord args command shape e =
    let read = and_parts_of (λ f. then_ok (λ n. Prune f n) (number_word 1 65535 (word_at args 2))) (file_word mode (word_at args 0)) command e in
    let more = then_parts (λ n. Prune read.0 n) (number_word 1 65535 (word_at args 2)) command read.2 in
    let form = and_parts (eqb (length args) 3) (bytes_eq (word_at args 1) (codes "keep")) shape in
    let keep : word_at args 1 ≡ codes "keep" = (bytes_eq-Decides (word_at args 1) (codes "keep")).0 form.1 in
    subst (Says mode (codes "prune" ∷ args)) more.2 (
      word_at args 0,
      word_at args 2,
      ap (λ ws. codes "prune" ∷ ws) (three_args args form.0 ∙ ap (λ w. word_at args 0 ∷ w ∷ word_at args 2 ∷ []) keep),
      file_said mode (word_at args 0) read.0 read.1,
      number_said 1 65535 (word_at args 2) more.0 (omega arith) more.1,
    )
command_said mode RestrictWord args command shape e =
    let read = and_parts_of (λ f. then_ok (λ n. Restrict f n) (number_word 0 255 (word_at args 1))) (file_word mode (word_at args 0)) command e in
    let more = then_parts (λ n. Restrict read.0 n) (number_word 0 255 (word_at args 1)) command read.2 in
    let form = guarded mode (eqb (length args) 2) shape in
    subst (Says mode (codes "restrict" ∷ args)) more.2 (
      word_at args 0,
      word_at args 1,
      ap (λ ws. codes "restrict" ∷ ws) (two_args args form.1),
      form.0,
      file_said mode (word_at args 0) read.0 read.1,
      number_said 0 255 (word_at args 1) more.0 (omega arith) more.1,
    )

-- ---- lines of words

keyed_said : (mode : Mode) (word : List ℕ) (args : List (List ℕ)) (key : Option Keyword) (command : Command) → keyword_of word ≡ key
    → keyed_command mode key args ≡ Ok command → Says mode (word ∷ args) command
keyed_said mode word args None command is e = cc
keyed_said mode word args (Some key) command is e = shaped (is_shape mode key args) refl e
  where
    shaped : (b : Bool) → is_shape mode key args ≡ b → cond b (command_of mode key args) (Err why.Word) ≡ Ok command
        → Says mode (word ∷ args) command
    shaped true p h =
        subst (λ w. Says mode (w ∷ args) command) (sym (key_said word key is)) (command_said mode key args command p h)
    shaped false p h = cc

-- what is read of words is said by them, and where they are not refused but give no command, they ask nothing
pub said-from_read : (mode : Mode) (words : List (List ℕ)) (command : Command) → words_command mode words ≡ Ok (Some command) → Says mode words command
said-from_read mode [] command e = cc
said-from_read mode (w ∷ args) command e = commented (eqb (get_or w 0 0) 35) e
  where
    kept : (r : Result Command LineWhy) → then_ok (λ c. Some c) r ≡ Ok (Some command) → r ≡ Ok command
    kept (Ok c) h = cc
    kept (Err x) h = cc

    commented : (b : Bool) → cond b (Ok None) (then_ok (λ c. Some c) (keyed_command mode (keyword_of w) args)) ≡ Ok (Some command)
        → Says mode (w ∷ args) command
    commented true h = cc
    commented false h = keyed_said mode w args (keyword_of w) command refl (kept (keyed_command mode (keyword_of w) args) h)

pub remark-from_read : (mode : Mode) (words : List (List ℕ)) → words_command mode words ≡ Ok None → IsRemark words
remark-from_read mode [] e = tt
remark-from_read mode (w ∷ args) e = commented (eqb (get_or w 0 0) 35) refl e
  where
    never : (r : Result Command LineWhy) → then_ok (λ c. Some c) r ≡ Ok None → ⊥
    never (Ok c) h = cc
    never (Err x) h = cc

    commented : (b : Bool) → eqb (get_or w 0 0) 35 ≡ b → cond b (Ok None) (then_ok (λ c. Some c) (keyed_command mode (keyword_of w) args)) ≡ Ok None
        → IsRemark (w ∷ args)
    commented true p h = eqb-true (get_or w 0 0) 35 p
    commented false p h = absurd (never (keyed_command mode (keyword_of w) args) h)

pub read-from_remark : (mode : Mode) (words : List (List ℕ)) → IsRemark words → words_command mode words ≡ Ok None
read-from_remark mode [] h = refl
read-from_remark mode (w ∷ args) h =
    cond-true (eqb (get_or w 0 0) 35) (Ok None) (then_ok (λ c. Some c) (keyed_command mode (keyword_of w) args)) (eq-eqb (get_or w 0 0) 35 h)

-- words that say a command are read as it
pub read-from_said : (mode : Mode) (words : List (List ℕ)) (command : Command) → Says mode words command → words_command mode words ≡ Ok (Some command)
read-from_said mode words (Begin file) (f, form, names) =
    ap (words_command mode) form ∙ ap (λ r. then_ok (λ c. Some c) (then_ok Begin r)) (file_read mode f file names)
read-from_said mode words (Super files) (fs, form, least, most, names) =
    ap (words_command mode) form
    ∙ ap (then_ok (λ c. Some c)) (
    cond-true (leb 2 (length fs) && leb (length fs) 17) (then_ok Super (file_words mode fs)) (Err why.Word) (both_leb (length fs) least most)
    ∙ ap (then_ok Super) (files_read mode fs files names)
    )
  where
    both_leb : (n : ℕ) → 2 ≤ n → n ≤ 17 → (leb 2 n && leb n 17) ≡ true
    both_leb n a b = ap (λ x. x && leb n 17) (le-leb 2 n a) ∙ le-leb n 17 b
read-from_said mode words (Pick k) (n, form, number) =
    ap (words_command mode) form ∙ ap (λ r. then_ok (λ c. Some c) (then_ok Pick r)) (number_read 0 16 n k (omega arith) number)
read-from_said mode words (Do (ReadAt at)) (p, form, path) =
    ap (words_command mode) form ∙ ap (λ r. then_ok (λ c. Some c) (then_ok (λ x. Do (ReadAt x)) r)) (path_read p at path)
read-from_said mode words (Do (ListAt at)) (p, form, path) =
    ap (words_command mode) form ∙ ap (λ r. then_ok (λ c. Some c) (then_ok (λ x. Do (ListAt x)) r)) (path_read p at path)
read-from_said mode words (Do (WriteAt at bytes)) (p, d, form, path, bytes_word) =
    ap (words_command mode) form
    ∙ ap (λ r. then_ok (λ c. Some c) (and_then (λ x. then_ok (λ bs. Do (WriteAt x bs)) (data_word d)) r)) (path_read p at path)
    ∙ ap (λ r. then_ok (λ c. Some c) (then_ok (λ bs. Do (WriteAt at bs)) r)) (data_read d bytes bytes_word)
read-from_said mode words (Do (MakeAt child)) (p, form, path) =
    ap (words_command mode) form ∙ ap (λ r. then_ok (λ c. Some c) (then_ok (λ x. Do (MakeAt x)) r)) (page_read p child path)
read-from_said mode words (Do (DropAt child)) (p, form, path) =
    ap (words_command mode) form ∙ ap (λ r. then_ok (λ c. Some c) (then_ok (λ x. Do (DropAt x)) r)) (page_read p child path)
read-from_said mode words Commit form = ap (words_command mode) form
read-from_said mode words Abandon form = ap (words_command mode) form
read-from_said mode words Create form = ap (words_command mode) form
read-from_said mode words (Destroy file) (f, form, names) =
    ap (words_command mode) form ∙ ap (λ r. then_ok (λ c. Some c) (then_ok Destroy r)) (file_read mode f file names)
read-from_said mode words (Prune file keep) (f, n, form, names, number) =
    ap (words_command mode) form
    ∙ ap (λ r. then_ok (λ c. Some c) (and_then (λ x. then_ok (λ k. Prune x k) (number_word 1 65535 n)) r)) (file_read mode f file names)
    ∙ ap (λ r. then_ok (λ c. Some c) (then_ok (λ k. Prune file k) r)) (number_read 1 65535 n keep (omega arith) number)
read-from_said mode words (Restrict file mask) (f, n, form, caps, names, number) =
    let Q : Mode → Type 0 = λ m. IsNameOf m f file → words_command m (codes "restrict" ∷ f ∷ n ∷ []) ≡ Ok (Some (Restrict file mask)) in
    ap (words_command mode) form ∙ subst Q (sym caps) under names
  where
    under : IsNameOf Caps f file → words_command Caps (codes "restrict" ∷ f ∷ n ∷ []) ≡ Ok (Some (Restrict file mask))
    under named =
        ap (λ r. then_ok (λ c. Some c) (and_then (λ x. then_ok (λ k. Restrict x k) (number_word 0 255 n)) r)) (file_read Caps f file named)
        ∙ ap (λ r. then_ok (λ c. Some c) (then_ok (λ k. Restrict file k) r)) (number_read 0 255 n mask (omega arith) number)

-- words say one command at most
pub said_once : (mode : Mode) (words : List (List ℕ)) (a b : Command) → Says mode words a → Says mode words b → a ≡ b
said_once mode words a b x y =
    let both : Ok (Some a) ≡ Ok (Some b) = sym (read-from_said mode words a x) ∙ read-from_said mode words b y in cc
