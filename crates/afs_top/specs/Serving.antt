-- What each call does.
use Rattle.std.specs.Prelude.{ℕ, List}
use Rattle.tree_model.specs.States.{State}
use Rattle.new_store.specs.declared.store.NewStore.{NewStore}
use Rattle.command_words.specs.declared.call.Call.{Call}
use Rattle.command_words.specs.declared.call.Call.TheVariants.{Format, Play, Show, Check, Cap}
use Rattle.store_commands.specs.Showing.{show_text}
use Rattle.store_commands.specs.Texts.{check_text, cap_text}

-- This holds of the call: where it is `play`, what is said of playing in the order of these clients;
-- where it makes a store, what is said of that; and where it prints a text of the store that is
-- found, what is said of that.
abbrev pub Serves : Call → (List ℕ → Type 0) → (NewStore → Type 0) → ((State → List ℕ) → Type 0)
    → Type 0
Serves (Format store) play format tell = format store
Serves (Play order) play format tell = play order
Serves Show play format tell = tell show_text
Serves Check play format tell = tell check_text
Serves (Cap object rights) play format tell = tell (cap_text object rights)
