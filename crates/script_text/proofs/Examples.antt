-- Worked rows of the grammar: words, and what they say.
use Rattle.std.proofs.Common.{◌≡◌, ℕ, List, [], ◌∷◌, ◌++◌, Some, Ok, Err, refl, sym, ◌∙◌, codes}
use Rattle.hex.specs.Hex.{decode_pairs}
use Rattle.tree_model.specs.declared.step.Step.TheVariants.{WriteAt, MakeAt}
use Rattle.script_text.specs.declared.command.Command.{Command}
use Rattle.script_text.specs.declared.command.Command.TheVariants.{Begin, Super, Pick, Do, Prune, Restrict}
use Rattle.script_text.specs.declared.command.FileName.TheVariants.{Number, Cap}
use Rattle.script_text.specs.declared.refused.LineWhy.{LineWhy}
use Rattle.script_text.specs.declared.refused.LineWhy.TheVariants as why
use Rattle.script_text.specs.declared.script.Mode.{Mode}
use Rattle.script_text.specs.declared.script.Mode.TheVariants.{Numbers, Caps}
use Rattle.script_text.specs.Grammar.{words_command}
use Rattle.script_text.specs.Says.{Says}
use Rattle.script_text.specs.Words.{words}
use Rattle.script_text.proofs.SaysLemmas.{read-from_said, said-from_read}

-- a capability
abbrev amoeba : List ℕ
amoeba = codes "amoeba" ++ 0 ∷ 0 ∷ 1 ∷ 1 ∷ 18 ∷ 164 ∷ 255 ∷ 255 ∷ 255 ∷ 255 ∷ []

begins : Says Numbers (words (codes "  begin   4032 ")) (Begin (Number 4032))
begins = said-from_read Numbers (words (codes "  begin   4032 ")) (Begin (Number 4032)) refl

begins_by_capability : Says Caps (words (codes "begin 616D6f6562610000010112a4FFFFffff")) (Begin (Cap amoeba))
unfolding decode_pairs
begins_by_capability = said-from_read Caps (words (codes "begin 616D6f6562610000010112a4FFFFffff")) (Begin (Cap amoeba)) refl

names_two_files : Says Numbers (words (codes "super 2 1")) (Super (Number 2 ∷ Number 1 ∷ []))
names_two_files = said-from_read Numbers (words (codes "super 2 1")) (Super (Number 2 ∷ Number 1 ∷ [])) refl

picks : Says Numbers (words (codes "pick 16")) (Pick 16)
picks = said-from_read Numbers (words (codes "pick 16")) (Pick 16) refl

writes : Says Numbers (words (codes "write /3/15 0aBf")) (Do (WriteAt (3 ∷ 15 ∷ []) (10 ∷ 191 ∷ [])))
unfolding decode_pairs
writes = said-from_read Numbers (words (codes "write /3/15 0aBf")) (Do (WriteAt (3 ∷ 15 ∷ []) (10 ∷ 191 ∷ []))) refl

writes_nothing : Says Numbers (words (codes "write / -")) (Do (WriteAt [] []))
writes_nothing = said-from_read Numbers (words (codes "write / -")) (Do (WriteAt [] [])) refl

makes : Says Numbers (words (codes "make /10/4")) (Do (MakeAt (10 ∷ [], 4)))
makes = said-from_read Numbers (words (codes "make /10/4")) (Do (MakeAt (10 ∷ [], 4))) refl

prunes : Says Numbers (words (codes "prune 1 keep 65535")) (Prune (Number 1) 65535)
prunes = said-from_read Numbers (words (codes "prune 1 keep 65535")) (Prune (Number 1) 65535) refl

restricts : Says Caps (words (codes "restrict 616d6f6562610000010112a4ffffffff 3")) (Restrict (Cap amoeba) 3)
unfolding decode_pairs
restricts = said-from_read Caps (words (codes "restrict 616d6f6562610000010112a4ffffffff 3")) (Restrict (Cap amoeba) 3) refl

-- ---- words that say nothing

nothing : (mode : Mode) (ws : List (List ℕ)) (e : LineWhy) → words_command mode ws ≡ Err e → (command : Command) → Says mode ws command → ⊥
nothing mode ws e refused command says = let both : Err e ≡ Ok (Some command) = sym refused ∙ read-from_said mode ws command says in cc

no_leading_zero : (command : Command) → Says Numbers (words (codes "begin 07")) command → ⊥
no_leading_zero = nothing Numbers (words (codes "begin 07")) why.Number refl

no_eighth_slot : (command : Command) → Says Numbers (words (codes "read /0/1/2/3/4/5/6/7")) command → ⊥
no_eighth_slot = nothing Numbers (words (codes "read /0/1/2/3/4/5/6/7")) why.Path refl

no_page_of_root : (command : Command) → Says Numbers (words (codes "drop /")) command → ⊥
no_page_of_root = nothing Numbers (words (codes "drop /")) why.Path refl

no_odd_digits : (command : Command) → Says Numbers (words (codes "write / 0")) command → ⊥
no_odd_digits = nothing Numbers (words (codes "write / 0")) why.Data refl

no_other_word_than_keep : (command : Command) → Says Numbers (words (codes "prune 1 leave 2")) command → ⊥
no_other_word_than_keep = nothing Numbers (words (codes "prune 1 leave 2")) why.Word refl

no_restrict_by_number : (command : Command) → Says Numbers (words (codes "restrict 1 3")) command → ⊥
no_restrict_by_number = nothing Numbers (words (codes "restrict 1 3")) why.Word refl
