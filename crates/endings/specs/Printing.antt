-- What a sink holds after a text was printed.
use Rattle.std.specs.Prelude.{◌≡◌, ◌⊎◌, ℕ, ◌<◌, List, [], ◌∷◌, ◌++◌, length, Option}
use Rattle.std.specs.List.{Contains}
use Rattle.std.specs.Io.KnownBytes.{Appends}
use Rattle.afs_base.specs.Causes.{Rose}
use Rattle.script_text.specs.Front.{AppendsFront}
use Rattle.endings.specs.Texts.{memory_text}
use Rattle.endings.specs.declared.status.Status.{Status}
use Rattle.endings.specs.declared.status.Status.TheVariants.{Success, Usage, BadScript, DriveFault, BadStore, SinkFault, SourceFault, Memory}

-- a text was printed: a front of it, and the whole of it where the sink's count did not rise
pub record Prints (old new : Option (List ℕ)) (sink_rose : Type 0) (text : List ℕ) : Type 0 where
  pub front : AppendsFront old new text
  pub whole : Appends old new text ⊎ sink_rose

-- the same of a sink, by the bytes that it has written and the faults that it counts
abbrev pub PrintsOn : {K : Type 0} → (K → Option (List ℕ)) → (K → ℕ) → K → K → List ℕ → Type 0
PrintsOn written faults old new text = Prints (written old) (written new) (Rose (faults old) (faults new)) text

-- the first line of a text that is not empty: up to its first line feed, or all of it where it has none
pub record IsFirstLine (text line rest : List ℕ) : Type 0 where
  pub parts : line ++ rest ≡ text
  pub some : 0 < length line
  pub ended : (rest ≡ []) ⊎ ((body : List ℕ) × (line ≡ body ++ 10 ∷ []))
  pub one : (body : List ℕ) (last : ℕ) → line ≡ body ++ last ∷ [] → Contains body 10 → ⊥

-- how a call ends that prints what it is to print: well, or with the sink's failure
abbrev pub FinishEnds : Option (List ℕ) → Option (List ℕ) → Type 0 → List ℕ → Status → Type 0
FinishEnds old new sink_rose text Success = Appends old new text
FinishEnds old new sink_rose text Usage = ⊥
FinishEnds old new sink_rose text BadScript = ⊥
FinishEnds old new sink_rose text DriveFault = ⊥
FinishEnds old new sink_rose text BadStore = ⊥
FinishEnds old new sink_rose text SinkFault = AppendsFront old new text × sink_rose
FinishEnds old new sink_rose text SourceFault = ⊥
FinishEnds old new sink_rose text Memory = ⊥

-- the same of a sink
abbrev pub FinishesOn : {K : Type 0} → (K → Option (List ℕ)) → (K → ℕ) → K → K → List ℕ → Status → Type 0
FinishesOn written faults old new text status =
    FinishEnds (written old) (written new) (Rose (faults old) (faults new)) text status

-- the same, where there may not be memory for the text
abbrev pub DoneEnds : Option (List ℕ) → Option (List ℕ) → Type 0 → List ℕ → Status → Type 0
DoneEnds old new sink_rose text status =
    FinishEnds old new sink_rose text status ⊎ ((status ≡ Memory) × Prints old new sink_rose memory_text)

-- how a call ends that stopped: with the status and the text of the stop, or for want of memory
abbrev pub HaltEnds : Option (List ℕ) → Option (List ℕ) → Type 0 → List ℕ → Status → Status → Type 0
HaltEnds old new sink_rose text wanted status =
    ((status ≡ wanted) × Prints old new sink_rose text) ⊎ ((status ≡ Memory) × Prints old new sink_rose memory_text)

-- the same of a sink
abbrev pub HaltsOn : {K : Type 0} → (K → Option (List ℕ)) → (K → ℕ) → K → K → List ℕ → Status → Status → Type 0
HaltsOn written faults old new text wanted status =
    HaltEnds (written old) (written new) (Rose (faults old) (faults new)) text wanted status
