-- The bytes of a version page with another commit reference or without members: that they are read as that.
use Rattle.std.proofs.Common.{◌≡◌, ◌≢◌, ℕ, ◌^◌, ◌<◌, ◌≤◌, List, [], Some, Ok, refl, ap, ◌∙◌, arith}
use Rattle.std.specs.Option.{option_and_then}
use Rattle.page_codec.specs.Values.{VersionValue}
use Rattle.page_codec.specs.Reading.{version_value}
use Rattle.page_codec.specs.Causes.{first_cause, version_causes, version_of}
use Rattle.page_codec.specs.Spelling.{version_bytes}
use Rattle.page_codec.specs.Bounds.{IsVersion}
use Rattle.page_codec.proofs.FrameLaws.{IsBlock}
use Rattle.page_codec.proofs.FactLaws.{VersionFacts-none}
use Rattle.page_codec.proofs.VersionLaws.{IsVersion-version_value, version_of-version_bytes}
use Rattle.store_model.specs.Laws.{read_of}
use Rattle.store_model.specs.Changes.{Rewrites, with_commit, without_members}
use Rattle.store_model.proofs.Steps.{Content}
use Rattle.store_model.proofs.Reading.{Uncaused, uncaused}

-- a version page that was read has a spelling
record Spelled (b : List ℕ) (v : VersionValue) : Type 0 where
  lawful : IsVersion (version_value b)
  value : version_value b ≡ v

spelled : (b : List ℕ) (v : VersionValue) → IsBlock b → version_of b ≡ Ok v → Spelled b v
spelled b v block e =
    let u : Uncaused (first_cause (version_causes b)) (version_value b) v = uncaused (first_cause (version_causes b)) (version_value b) v e in
    record { lawful = IsVersion-version_value b block (VersionFacts-none b u.none); value = u.value }

-- with this block as its commit reference
pub read_committed : (b : List ℕ) (v : VersionValue) (next : ℕ) → IsBlock b → version_of b ≡ Ok v → 1 ≤ next → next < 2 ^ 28
    → version_of (version_bytes (record (version_value b) { commit = Some next })) ≡ Ok (with_commit next v)
read_committed b v next block e low high =
    let s : Spelled b v = spelled b v block e in
    let l : IsVersion (version_value b) = s.lawful in
    let now : IsVersion (record (version_value b) { commit = Some next }) =
    record {
      sound = record { top = l.sound.top; object = l.sound.object; serial = l.sound.serial; commit = low; base = l.sound.base };
      frame = l.frame;
      lawful = l.lawful;
      object_below = l.object_below;
      serial_below = l.serial_below;
      commit_below = high;
      base_below = l.base_below;
      count = l.count;
      each = l.each;
    } in
    version_of-version_bytes (version_bytes (record (version_value b) { commit = Some next })) (record (version_value b) { commit = Some next }) now refl
    ∙ ap (λ w. Ok (with_commit next w)) s.value

-- without members
pub read_cleared : (b : List ℕ) (v : VersionValue) → IsBlock b → version_of b ≡ Ok v
    → version_of (version_bytes (record (version_value b) { members = [] })) ≡ Ok (without_members v)
read_cleared b v block e =
    let s : Spelled b v = spelled b v block e in
    let l : IsVersion (version_value b) = s.lawful in
    let now : IsVersion (record (version_value b) { members = [] }) =
    record {
      sound = record { top = l.sound.top; object = l.sound.object; serial = l.sound.serial; commit = l.sound.commit; base = l.sound.base };
      frame = l.frame;
      lawful = l.lawful;
      object_below = l.object_below;
      serial_below = l.serial_below;
      commit_below = l.commit_below;
      base_below = l.base_below;
      count = omega arith;
      each = tt;
    } in
    version_of-version_bytes (version_bytes (record (version_value b) { members = [] })) (record (version_value b) { members = [] }) now refl
    ∙ ap (λ w. Ok (without_members w)) s.value

-- a block that was written so
pub rewrites_commit : (c d : Content) (n : ℕ) (b : List ℕ) (v : VersionValue) (next : ℕ) → IsBlock b → c n ≡ Some b → version_of b ≡ Ok v
    → 1 ≤ next → next < 2 ^ 28 → d n ≡ Some (version_bytes (record (version_value b) { commit = Some next })) → ((m : ℕ) → m ≢ n → c m ≡ d m)
    → Rewrites c d n (with_commit next)
rewrites_commit c d n b v next block was e low high is others =
    record {
      page = v;
      was = ap (option_and_then (λ bytes. read_of (version_of bytes))) was ∙ ap read_of e;
      is = ap (option_and_then (λ bytes. read_of (version_of bytes))) is ∙ ap read_of (read_committed b v next block e low high);
      others = others;
    }

pub rewrites_members : (c d : Content) (n : ℕ) (b : List ℕ) (v : VersionValue) → IsBlock b → c n ≡ Some b → version_of b ≡ Ok v
    → d n ≡ Some (version_bytes (record (version_value b) { members = [] })) → ((m : ℕ) → m ≢ n → c m ≡ d m)
    → Rewrites c d n without_members
rewrites_members c d n b v block was e is others =
    record {
      page = v;
      was = ap (option_and_then (λ bytes. read_of (version_of bytes))) was ∙ ap read_of e;
      is = ap (option_and_then (λ bytes. read_of (version_of bytes))) is ∙ ap read_of (read_cleared b v block e);
      others = others;
    }
