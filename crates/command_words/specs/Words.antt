-- The words of the program, and the call that they name.
use Rattle.std.specs.Prelude.{◌≡◌, ℕ, ◌<◌, ◌≤◌, ◌^◌, List, [], ◌∷◌, map, codes, String, string_bytes}
use Rattle.std.specs.declared.alloc.Global.{Global}
use Rattle.std.specs.List.{All, AllZip}
use Rattle.afs_base.specs.declared.limits.TheConstants.{MAX_CLIENTS, MAX_OBJECTS}
use Rattle.command_words.specs.declared.call.Call.{Call}
use Rattle.command_words.specs.declared.call.Call.TheVariants.{Format, Play, Show, Check, Cap}
use Rattle.new_store.specs.declared.store.NewStore.{NewStore}
use Rattle.new_store.specs.Sizes.{IsInRange}
use Rattle.script_text.specs.Says.{IsNumber}

-- the bytes of each word
abbrev pub bytes_of : List (String Global) → List (List ℕ)
bytes_of words = map (λ (w : String Global). string_bytes w) words

-- three words are the numbers of a new store
pub record AreNumbersOf (key files blocks : List ℕ) (store : NewStore) : Type 0 where
  pub key_word : IsNumber key store.key
  pub files_word : IsNumber files store.files
  pub blocks_word : IsNumber blocks store.blocks

-- the words of each call
abbrev pub AreWords : Call → List (List ℕ) → Type 0
AreWords (Format store) words =
    (key files blocks : List ℕ) × (words ≡ codes "format" ∷ key ∷ files ∷ blocks ∷ [])
    × AreNumbersOf key files blocks store
AreWords (Play order) words =
    (clients : List (List ℕ)) × (words ≡ codes "play" ∷ clients) × AllZip IsNumber clients order
AreWords Show words = words ≡ codes "show" ∷ []
AreWords Check words = words ≡ codes "check" ∷ []
AreWords (Cap object rights) words =
    (o r : List ℕ) × (words ≡ codes "cap" ∷ o ∷ r ∷ []) × IsNumber o object × IsNumber r rights

-- a call comes with so many scripts
abbrev pub TakesScripts : Call → ℕ → Type 0
TakesScripts (Format store) scripts = scripts ≡ 0
TakesScripts (Play order) scripts = (1 ≤ scripts) × (scripts ≤ MAX_CLIENTS)
TakesScripts Show scripts = scripts ≡ 0
TakesScripts Check scripts = scripts ≡ 0
TakesScripts (Cap object rights) scripts = scripts ≡ 0

-- the numbers of a call are in their ranges, where it comes with so many scripts, over drives of so
-- many blocks
abbrev pub IsWithin : ℕ → ℕ → Call → Type 0
IsWithin scripts drive_blocks (Format store) =
    (store.key < 2 ^ 64) × IsInRange store.files store.blocks × (store.blocks ≤ drive_blocks)
IsWithin scripts drive_blocks (Play order) =
    All (λ client. (1 ≤ client) × (client ≤ scripts)) order
IsWithin scripts drive_blocks Show = Unit {0}
IsWithin scripts drive_blocks Check = Unit {0}
IsWithin scripts drive_blocks (Cap object rights) =
    (1 ≤ object) × (object ≤ MAX_OBJECTS) × (rights ≤ 255)

-- these words, with so many scripts and over drives of so many blocks, name this call
pub record IsCall (words : List (String Global)) (scripts drive_blocks : ℕ) (call : Call) : Type 0
  where
    pub named : AreWords call (bytes_of words)
    pub counted : TakesScripts call scripts
    pub within : IsWithin scripts drive_blocks call

-- they name no call
abbrev pub IsNoCall : List (String Global) → ℕ → ℕ → Type 0
IsNoCall words scripts drive_blocks = (call : Call) → IsCall words scripts drive_blocks call → ⊥
