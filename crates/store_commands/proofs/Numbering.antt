-- In each file that is found the serials rise by one, and it has versions exactly where its entry names a block.
use Rattle.std.proofs.Common.{◌≡◌, ℕ, zero, suc, ◌+◌, ◌-◌, ◌==◌, Bool, true, false, cond, nat_lt, List, [], ◌∷◌, ◌++◌, length, Option, Some, None, Ok, refl, sym, ap, subst, ◌∙◌, slice_get, arith}
use Rattle.std.specs.Option.{option_and_then, is_some}
use Rattle.std.proofs.lemmas.Bool.{eqb-true}
use Rattle.page_codec.specs.declared.why.Why.TheVariants.{Member}
use Rattle.page_codec.specs.Values.{VersionValue, MemberValue}
use Rattle.store_model.specs.Walk.{Blocks, if_some}
use Rattle.store_model.specs.Laid.{LaidVersion, LaidFile, last_laid}
use Rattle.store_model.specs.Chains.{follows, version_at, chain_from, chain_at}
use Rattle.store_model.specs.Tables.{Row, files_from}
use Rattle.store_model.specs.Members.{Top, Linked, tops_from, last_in, longer, with_version_at, version_linked, member_linked, members_linked, tops_linked}
use Rattle.store_model.specs.Found.{LaidStore, laid_from, laid}
use Rattle.store_model.proofs.Giving.{Gives, gives_bind, gives_check, gives_done, gives_refuse, gives_any, gives_if, gives_some}
use Rattle.store_model.proofs.Lying.{Each}
use Rattle.store_model.proofs.Chaining.{last_from}
use Rattle.store_model.proofs.LastVersions.{last_is}
use Rattle.store_commands.proofs.Sums.{some_above}

-- each version after this one has the next serial
abbrev pub RisesFrom : LaidVersion → List LaidVersion → Type 0
RisesFrom version [] = Unit {0}
RisesFrom version (next ∷ others) = (next.serial ≡ version.serial + 1) × RisesFrom next others

abbrev pub Rises : List LaidVersion → Type 0
Rises [] = Unit {0}
Rises (version ∷ others) = RisesFrom version others

-- the file is live exactly where its entry names a block, and its serials rise by one
pub record IsNumbered (file : LaidFile) : Type 0 where
  pub live : is_some file.entry.first ≡ nat_lt 0 (length file.versions)
  pub rising : Rises file.versions

-- a chain that begins with this version
abbrev ChainOf : LaidVersion → List LaidVersion → Type 0
ChainOf version versions = (rest : List LaidVersion) × (versions ≡ version ∷ rest) × RisesFrom version rest

-- ---- serials

abbrev NextOf : Option LaidVersion → ℕ → Type 0
NextOf None serial = Unit {0}
NextOf (Some before) serial = serial ≡ before.serial + 1

gives_follows : (block : ℕ) (version : VersionValue) (before : Option LaidVersion) → Gives (follows block version before) (λ _. NextOf before version.serial)
unfolding follows
gives_follows block version None = gives_done true (λ _. Unit {0}) tt
gives_follows block version (Some before) =
    gives_bind _ _ (λ _. (version.serial == before.serial + 1) ≡ true) (λ _. version.serial ≡ before.serial + 1) (gives_check (version.serial == before.serial + 1) block _)
    (λ _ same. gives_bind _ _ (λ _. Unit {0}) (λ _. version.serial ≡ before.serial + 1) (gives_any _)
    (λ _ _ seen x all e. eqb-true version.serial (before.serial + 1) same))

gives_version : (blocks : Blocks) (object namer block : ℕ) (before : Option LaidVersion)
    → Gives (version_at blocks object namer block before) (λ version. NextOf before version.serial)
unfolding version_at
gives_version blocks object namer block before =
    let P : LaidVersion → Type 0 = λ version. NextOf before version.serial in
    gives_bind _ _ (λ _. Unit {0}) P (gives_any _)
    (λ bytes _. gives_bind _ _ (λ _. Unit {0}) P (gives_any _)
    (λ version _. gives_bind _ _ (λ _. Unit {0}) P (gives_any _)
    (λ _ _. gives_bind _ _ (λ _. NextOf before version.serial) P (gives_follows block version before)
    (λ _ next. gives_bind _ _ (λ _. Unit {0}) P (gives_any _)
    (λ _ _. gives_bind _ _ (λ _. Unit {0}) P (gives_any _)
    (λ others _. gives_done _ P next))))))

-- a chain after a version rises from there
after : (version next : LaidVersion) (versions : List LaidVersion) → next.serial ≡ version.serial + 1 → ChainOf next versions → RisesFrom version versions
after version next versions serial chain = subst (RisesFrom version) (sym chain.1) (serial, chain.2)

gives_chain_from : (blocks : Blocks) (object most : ℕ) (version : LaidVersion) → Gives (chain_from blocks object most version) (ChainOf version)
unfolding chain_from
gives_chain_from blocks object zero version = gives_done (version ∷ []) (ChainOf version) ([], refl, tt)
gives_chain_from blocks object (suc most) version =
    gives_bind _ _ (RisesFrom version) (ChainOf version)
    (gives_some version.commit _ (RisesFrom version) tt
    (λ block _. gives_bind _ _ (λ next. next.serial ≡ version.serial + 1) (RisesFrom version) (gives_version blocks object version.block block (Some version))
    (λ next serial seen versions all e. after version next versions serial (gives_chain_from blocks object most next seen versions all e))))
    (λ later rises. gives_done (version ∷ later) (ChainOf version) (later, refl, rises))

-- a chain that is not empty
abbrev SomeChain : List LaidVersion → Type 0
SomeChain versions = (version : LaidVersion) × ChainOf version versions

gives_chain : (blocks : Blocks) (object namer block : ℕ) → Gives (chain_at blocks object namer block) SomeChain
unfolding chain_at
gives_chain blocks object namer block =
    gives_bind _ _ (λ _. Unit {0}) SomeChain (gives_any _)
    (λ version _ seen versions all e. (version, gives_chain_from blocks object blocks.count version seen versions all e))

-- ---- files

-- versions of a file whose entry names this block
abbrev AreNumbered : Option ℕ → List LaidVersion → Type 0
AreNumbered first versions = (is_some first ≡ nat_lt 0 (length versions)) × Rises versions

some_numbered : (block : ℕ) (versions : List LaidVersion) → SomeChain versions → AreNumbered (Some block) versions
some_numbered block versions chain = subst (AreNumbered (Some block)) (sym chain.1.1) (some_above (length chain.1.0), chain.1.2)

gives_versions : (blocks : Blocks) (object namer : ℕ) (first : Option ℕ) → Gives (if_some first (chain_at blocks object namer)) (AreNumbered first)
unfolding if_some
gives_versions blocks object namer None = gives_done [] (AreNumbered None) (refl, tt)
gives_versions blocks object namer (Some block) = λ seen versions all e. some_numbered block versions (gives_chain blocks object namer block seen versions all e)

gives_files : (blocks : Blocks) (object : ℕ) (rows : List Row) → Gives (files_from blocks object rows) (Each IsNumbered)
unfolding files_from
gives_files blocks object [] = gives_done [] (Each IsNumbered) tt
gives_files blocks object (row ∷ others) =
    gives_bind _ _ (AreNumbered row.entry.first) (Each IsNumbered) (gives_versions blocks object row.block row.entry.first)
    (λ versions numbered. gives_bind _ _ (Each IsNumbered) (Each IsNumbered) (gives_files blocks (suc object) others)
    (λ rest each. gives_done _ (Each IsNumbered) (record { live = numbered.0; rising = numbered.1 }, each)))

-- ---- members

-- one version more behind the last
rises_longer : (version : LaidVersion) (rest : List LaidVersion) (next : LaidVersion) → RisesFrom version rest → next.serial ≡ (last_from version rest).serial + 1
    → RisesFrom version (rest ++ next ∷ [])
rises_longer version [] next rises serial = (serial, tt)
rises_longer version (x ∷ xs) next rises serial = (rises.0, rises_longer x xs next rises.1 serial)

longer_numbered : (file : LaidFile) (last next : LaidVersion) → IsNumbered file → last_laid file.versions ≡ Some last → next.serial ≡ last.serial + 1 → IsNumbered (longer next file)
longer_numbered file last next numbered is serial = of file.versions numbered.live numbered.rising is
  where
    of : (versions : List LaidVersion) → is_some file.entry.first ≡ nat_lt 0 (length versions) → Rises versions → last_laid versions ≡ Some last
        → IsNumbered (record file { versions = versions ++ next ∷ [] })
    of [] live rises e = absurd cc
    of (version ∷ rest) live rises e =
        let one : last ≡ last_from version rest = last_is (version ∷ rest) version rest last refl e in
        record { live = live ∙ sym (some_above (length rest)) ∙ some_above (length (rest ++ next ∷ [])); rising = rises_longer version rest next rises (serial ∙ ap (λ (v : LaidVersion). v.serial + 1) one) }

numbered_with : (place : ℕ) (last next : LaidVersion) (files : List LaidFile) → option_and_then (λ file. last_laid file.versions) (slice_get files place) ≡ Some last
    → next.serial ≡ last.serial + 1 → Each IsNumbered files → Each IsNumbered (with_version_at place next files)
numbered_with place last next [] is serial each = tt
numbered_with zero last next (file ∷ others) is serial each = (longer_numbered file last next each.0 is serial, each.1)
numbered_with (suc place) last next (file ∷ others) is serial each = (each.0, numbered_with place last next others is serial each.1)

-- where an object has a last version, that is the one of its file
last_at : (object : ℕ) (files : List LaidFile) (last : LaidVersion) → last_in object files ≡ Some last
    → option_and_then (λ file. last_laid file.versions) (slice_get files (object - 1)) ≡ Some last
last_at object files last e = of (object == 0) e
  where
    of : (b : Bool) → cond b None (option_and_then (λ (file : LaidFile). last_laid file.versions) (slice_get files (object - 1))) ≡ Some last
        → option_and_then (λ file. last_laid file.versions) (slice_get files (object - 1)) ≡ Some last
    of true h = absurd cc
    of false h = h

gives_version_linked : (blocks : Blocks) (namer : ℕ) (member : MemberValue) (last : LaidVersion) (files : List LaidFile)
    → last_in member.object files ≡ Some last → Each IsNumbered files → Gives (version_linked blocks namer member last files) (Each IsNumbered)
unfolding version_linked
gives_version_linked blocks namer member last files is each =
    gives_if (last.block == member.block) _ _ (Each IsNumbered) (λ _. gives_done files (Each IsNumbered) each)
    (λ _. gives_bind _ _ (λ next. next.serial ≡ last.serial + 1) (Each IsNumbered) (gives_version blocks member.object namer member.block (Some last))
    (λ next serial. gives_bind _ _ (λ _. Unit {0}) (Each IsNumbered) (gives_any _)
    (λ _ _. gives_done _ (Each IsNumbered) (numbered_with (member.object - 1) last next files (last_at member.object files last is) serial each))))

abbrev LinkedNumbered : Linked → Type 0
LinkedNumbered linked = Each IsNumbered linked.files

gives_member : (blocks : Blocks) (top : Top) (member : MemberValue) (linked : Linked) (last : Option LaidVersion) → last_in member.object linked.files ≡ last
    → LinkedNumbered linked → Gives (member_linked blocks top member linked last) LinkedNumbered
unfolding member_linked
gives_member blocks top member linked None is each = gives_refuse top.version.block Member LinkedNumbered
gives_member blocks top member linked (Some last) is each =
    gives_bind _ _ (λ _. Unit {0}) LinkedNumbered (gives_any _)
    (λ _ _. gives_bind _ _ (Each IsNumbered) LinkedNumbered (gives_version_linked blocks top.version.block member last linked.files is each)
    (λ files numbered. gives_done _ LinkedNumbered numbered))

gives_members : (blocks : Blocks) (top : Top) (members : List MemberValue) (linked : Linked) → LinkedNumbered linked
    → Gives (members_linked blocks top members linked) LinkedNumbered
unfolding members_linked
gives_members blocks top [] linked each = gives_done _ LinkedNumbered each
gives_members blocks top (member ∷ others) linked each =
    gives_bind _ _ LinkedNumbered LinkedNumbered (gives_member blocks top member linked (last_in member.object linked.files) refl each)
    (λ next numbered. gives_members blocks top others next numbered)

gives_tops : (blocks : Blocks) (tops : List Top) (linked : Linked) → LinkedNumbered linked → Gives (tops_linked blocks tops linked) LinkedNumbered
unfolding tops_linked
gives_tops blocks [] linked each = gives_done linked LinkedNumbered each
gives_tops blocks (top ∷ others) linked each =
    gives_bind _ _ LinkedNumbered LinkedNumbered (gives_members blocks top top.version.members linked each)
    (λ next numbered. gives_tops blocks others next numbered)

-- ---- the store

abbrev StoreNumbered : LaidStore → Type 0
StoreNumbered store = Each IsNumbered store.files

gives_from : (content : ℕ → Option (List ℕ)) (most : ℕ) (bytes : List ℕ) → Gives (laid_from content most bytes) StoreNumbered
unfolding laid_from
gives_from content most bytes =
    gives_bind _ _ (λ _. Unit {0}) StoreNumbered (gives_any _)
    (λ root _. gives_bind _ _ (λ _. Unit {0}) StoreNumbered (gives_any _)
    (λ _ _. gives_bind _ _ (λ _. Unit {0}) StoreNumbered (gives_any _)
    (λ rows _. gives_bind _ _ (Each IsNumbered) StoreNumbered (gives_files (record { content = content; count = root.blocks }) 1 rows)
    (λ files each. gives_bind _ _ LinkedNumbered StoreNumbered (gives_tops (record { content = content; count = root.blocks }) (tops_from 1 files) _ each)
    (λ linked numbered. gives_done _ StoreNumbered numbered)))))

-- each file of a store that is found is numbered
pub files_numbered : (content : ℕ → Option (List ℕ)) (most : ℕ) (store : LaidStore) (places : List ℕ) → laid content most [] ≡ Ok (store, places) → Each IsNumbered store.files
unfolding laid
files_numbered content most store places e =
    gives_bind _ _ (λ _. Unit {0}) StoreNumbered (gives_any _) (λ bytes _. gives_from content most bytes) [] store places e

-- the last serial is so many above the first as there are versions after it
pub last_serial : (version : LaidVersion) (rest : List LaidVersion) → RisesFrom version rest → (last_from version rest).serial ≡ version.serial + length rest
last_serial version [] rises = omega arith
last_serial version (x ∷ xs) rises = omega (arith, last_serial x xs rises.1, rises.0)
