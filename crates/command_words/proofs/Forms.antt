-- The words of a call other than `play` are one, three or four.
use Rattle.std.proofs.Common.{◌≡◌, ◌≢◌, ℕ, ◌<◌, ◌≤◌, List, [], ◌∷◌, length, get_or, Option, Some, None, IfSome, String, Global, subst, sym, ap, ◌∙◌, ◌^◌, codes, arith}
use Rattle.std.specs.Prelude.{string_bytes}
use Rattle.std.specs.Option.{option_map}
use Rattle.new_store.specs.declared.store.NewStore.{NewStore}
use Rattle.script_text.specs.Says.{IsNumberIn}
use Rattle.command_words.specs.Words.{AreNumbersOf, AreWords, IsWithin, bytes_of}
use Rattle.command_words.proofs.Numbers.{only_read}
use Rattle.command_words.specs.declared.call.Call.{Call}
use Rattle.command_words.specs.declared.call.Call.TheVariants.{Format, Play, Show, Check, Cap}

-- what is named by these words is named by those that are the same
pub named_along : (found : Option Call) (words all : List (List ℕ)) (scripts blocks : ℕ)
    → words ≡ all
    → IfSome found (λ c. AreWords c words × IsWithin scripts blocks c)
    → IfSome found (λ c. AreWords c all × IsWithin scripts blocks c)
named_along found words all scripts blocks same named = subst
    (λ ws. IfSome found (λ c. AreWords c ws × IsWithin scripts blocks c)) same named

-- what is in its range with all scripts is so with these
pub within_scripts : (found : Option Call) (words : List (List ℕ)) (scripts blocks : ℕ)
    → IfSome found (λ c. AreWords c words × ((n : ℕ) → IsWithin n blocks c))
    → IfSome found (λ c. AreWords c words × IsWithin scripts blocks c)
within_scripts None words scripts blocks named = named
within_scripts (Some c) words scripts blocks named = (named.0, named.1 scripts)

-- what is in its range over all drives is so over these
pub within_these : (found : Option Call) (words : List (List ℕ)) (scripts blocks : ℕ)
    → IfSome found (λ c. AreWords c words × ((n b : ℕ) → IsWithin n b c))
    → IfSome found (λ c. AreWords c words × IsWithin scripts blocks c)
within_these None words scripts blocks named = named
within_these (Some c) words scripts blocks named = (named.0, named.1 scripts blocks)

-- the only store of three words is the only call of the words with `format` before them
pub format_only : (found : Option NewStore) (word key files blocks : List ℕ) (drive_blocks : ℕ)
    → word ≢ codes "play" → word ≡ codes "format"
    → ((s : NewStore) → AreNumbersOf key files blocks s → (n : ℕ)
    → IsWithin n drive_blocks (Format s) → found ≡ Some s)
    → (c : Call) → AreWords c (word ∷ key ∷ files ∷ blocks ∷ []) → (n : ℕ)
    → IsWithin n drive_blocks c → option_map Format found ≡ Some c
format_only found word key files blocks drive_blocks other is only (Format store)
    (k, f, b, form, numbers) n within =
    let first : key ≡ k = cc in
    let second : files ≡ f = cc in
    let third : blocks ≡ b = cc in
    let these : AreNumbersOf key files blocks store = record {
      key_word = first ∙ numbers.key_word;
      files_word = second ∙ numbers.files_word;
      blocks_word = third ∙ numbers.blocks_word;
    } in
    ap (option_map Format) (only store these n within)
format_only found word key files blocks drive_blocks other is only (Play order)
    (clients, form, numbers) n within =
    let first : word ≡ codes "play" = cc in absurd (other first)
format_only found word key files blocks drive_blocks other is only Show form n within = cc
format_only found word key files blocks drive_blocks other is only Check form n within = cc
format_only found word key files blocks drive_blocks other is only (Cap object rights)
    (o, r, form, first, second) n within = cc

-- two numbers are those of the only call of the words with `cap` before them
pub cap_only : (word object rights : List ℕ) (most_object most_rights o r : ℕ)
    → most_object < 2 ^ 64 → most_rights < 2 ^ 64 → word ≢ codes "play"
    → IsNumberIn 1 most_object object o → IsNumberIn 0 most_rights rights r
    → (c : Call) → AreWords c (word ∷ object ∷ rights ∷ []) → (n b : ℕ) → IsWithin n b c
    → (let made : Option Call = Some (Cap o r) in made) ≡ Some c
cap_only word object rights mo mr o r fits also_fits other read also (Format store)
    (k, f, b, form, numbers) n blocks within = cc
cap_only word object rights mo mr o r fits also_fits other read also (Play order)
    (clients, form, numbers) n b within =
    let first : word ≡ codes "play" = cc in absurd (other first)
cap_only word object rights mo mr o r fits also_fits other read also Show form n b within = cc
cap_only word object rights mo mr o r fits also_fits other read also Check form n b within = cc
cap_only word object rights mo mr o r fits also_fits other read also (Cap p q)
    (x, y, form, first, second) n b within =
    let one : object ≡ x = cc in
    let two : rights ≡ y = cc in
    let most = within.1 in
    let more = within.2 in
    let same = only_read 1 mo object o p fits read (one ∙ first) (omega arith) in
    let alike = only_read 0 mr rights r q also_fits also (two ∙ second) (omega arith) in
    ap (λ v. Some (Cap v r)) same ∙ ap (λ v. Some (Cap p v)) alike

-- the first word is not `play` where no words after it make it so
pub other_word : (words : List (String Global)) (a : String Global) → 1 ≤ length words
    → a ≡ get_or words 0 a
    → ((others : List (List ℕ)) → bytes_of words ≢ codes "play" ∷ others)
    → string_bytes a ≢ codes "play"
other_word [] a some first other is = absurd (omega (arith, some))
other_word (u ∷ us) a some first other is =
    other (bytes_of us)
    (ap (λ (v : String Global). string_bytes v ∷ bytes_of us) (sym first)
    ∙ ap (λ w. w ∷ bytes_of us) is)

-- the bytes of three words
pub three_words : (words : List (String Global)) (a b c : String Global) → 3 ≤ length words
    → length words < 4
    → a ≡ get_or words 0 a → b ≡ get_or words 1 b → c ≡ get_or words 2 c
    → string_bytes a ∷ string_bytes b ∷ string_bytes c ∷ [] ≡ bytes_of words
three_words [] a b c least most first second third = absurd (omega (arith, least))
three_words (u ∷ []) a b c least most first second third = absurd (omega (arith, least))
three_words (u ∷ v ∷ []) a b c least most first second third = absurd (omega (arith, least))
three_words (u ∷ v ∷ w ∷ []) a b c least most first second third = cc (first, second, third)
three_words (u ∷ v ∷ w ∷ x ∷ words) a b c least most first second third = absurd
    (omega (arith, most))

-- the bytes of four words
pub four_words : (words : List (String Global)) (a b c d : String Global) → 4 ≤ length words
    → length words < 5
    → a ≡ get_or words 0 a → b ≡ get_or words 1 b → c ≡ get_or words 2 c → d ≡ get_or words 3 d
    → string_bytes a ∷ string_bytes b ∷ string_bytes c ∷ string_bytes d ∷ [] ≡ bytes_of words
four_words [] a b c d least most first second third fourth = absurd (omega (arith, least))
four_words (u ∷ []) a b c d least most first second third fourth = absurd (omega (arith, least))
four_words (u ∷ v ∷ []) a b c d least most first second third fourth = absurd (omega (arith, least))
four_words (u ∷ v ∷ w ∷ []) a b c d least most first second third fourth = absurd
    (omega (arith, least))
four_words (u ∷ v ∷ w ∷ x ∷ []) a b c d least most first second third fourth = cc
    (first, second, third, fourth)
four_words (u ∷ v ∷ w ∷ x ∷ y ∷ words) a b c d least most first second third fourth = absurd
    (omega (arith, most))
