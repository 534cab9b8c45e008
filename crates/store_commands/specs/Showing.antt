-- What `show` prints of a state.
use Rattle.std.specs.Prelude.{ℕ, ◌+◌, List, [], ◌∷◌, ◌++◌, Option, Some, None}
use Rattle.endings.specs.Files.{file_line, kept_serials}
use Rattle.service_model.specs.Print.{file_text}
use Rattle.tree_listing.specs.TreeText.{tree_text}
use Rattle.tree_model.specs.States.{State, File, Version, last_version}
use Rattle.afs_base.specs.declared.head.Head.{Head}

-- the lines of the pages of a version, where there is one
abbrev pub version_text : Option Version → List ℕ
version_text None = []
version_text (Some version) = tree_text version.tree

-- a file: its line with the serials that are kept, and the pages of its last version; nothing where it is not live
abbrev pub shown_file : ℕ → File → List ℕ
shown_file object file = file_text object file ++ version_text (last_version file)

-- these files, the first of which is this object
abbrev pub shown_files : ℕ → List File → List ℕ
shown_files object [] = []
shown_files object (file ∷ others) = shown_file object file ++ shown_files (object + 1) others

-- what `show` prints
abbrev pub show_text : State → List ℕ
show_text state = shown_files 1 state.files

-- the serials of the versions that are kept, the first one in any case
abbrev pub head_serials : Head → List ℕ
head_serials head = kept_serials head.first head.serial

-- the line of a file
abbrev pub head_line : ℕ → Head → List ℕ
head_line object head = file_line object head.first head.serial
