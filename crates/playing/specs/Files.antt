-- What is told of the versions that the files of a state keep.
use Rattle.std.specs.Prelude.{◌≡◌, ℕ, List, [], Option, Some, None, slice_get}
use Rattle.std.specs.List.{AllZip}
use Rattle.endings.specs.Files.{file_line, kept_serials}
use Rattle.tree_model.specs.States.{File, IsRising, last_serial, serials_of}

-- The first and the last serial of a live file, between which all are kept; none of another.
abbrev pub IsToldOf : Option (ℕ × ℕ) → File → Type 0
IsToldOf None file = file.versions ≡ []
IsToldOf (Some serials) file = serials_of file ≡ kept_serials serials.0 serials.1

-- This is told of all files, object 1 first.
abbrev pub AreToldOf : List (Option (ℕ × ℕ)) → List File → Type 0
AreToldOf told files = AllZip IsToldOf told files

-- The line of an object of which this is told.
abbrev pub told_line : ℕ → Option (ℕ × ℕ) → List ℕ
told_line object None = []
told_line object (Some serials) = file_line object serials.0 serials.1

-- Where the serials of a file rise by one, the first and the last tell them all.
abbrev pub EndsTell : Type 0
EndsTell =
    (file : File) (first last : ℕ) → IsRising (serials_of file)
    → slice_get (serials_of file) 0 ≡ Some first → last_serial file ≡ Some last
    → IsToldOf (Some (first, last)) file
