-- The texts that the commands print of a store, and how the printing of one ends.
use Rattle.std.specs.Prelude.{ℕ, List, Option}
use Rattle.afs_base.specs.declared.head.Head.{Head}
use Rattle.caps.specs.Tables.{seal_of}
use Rattle.drives.specs.declared.device.Half.{Half}
use Rattle.endings.specs.Printing.{DoneEnds}
use Rattle.endings.specs.declared.status.Status.{Status}
use Rattle.page_codec.specs.Values.{TableValue}
use Rattle.tree_model.specs.States.{File, State}
use Rattle.store_commands.specs.declared.text.Text.{Text}
use Rattle.store_commands.specs.declared.text.Text.TheVariants.{Show, Check, Cap}
use Rattle.store_commands.specs.Counting.{counted_text}
use Rattle.store_commands.specs.Showing.{show_text}
use Rattle.store_commands.specs.Shows.{ShowEnds}
use Rattle.store_commands.specs.Texts.{cap_text, check_text, sealed_text}

-- the text of a state
abbrev pub text_of : Text → State → List ℕ
text_of Show = show_text
text_of Check = check_text
text_of (Cap object rights) = cap_text object rights

-- how the printing of a text ends, over a store with this table and these heads that stands for the files that are `told`
abbrev pub TextEnds : Text → TableValue → List (Option Head) → (List File → Type 0) → (Half → Type 0) → (Half → Type 0)
    → Option (List ℕ) → Option (List ℕ) → Type 0 → Status → Type 0
TextEnds Show table heads told stopped unread old new sink_rose status = ShowEnds told stopped unread old new sink_rose status
TextEnds Check table heads told stopped unread old new sink_rose status = DoneEnds old new sink_rose (counted_text table heads) status
TextEnds (Cap object rights) table heads told stopped unread old new sink_rose status = DoneEnds old new sink_rose (sealed_text object rights (seal_of table object)) status
