-- Updates stay sound where the files that they are on are as they were, from their bases on.
use Rattle.std.proofs.Common.{◌≡◌, ◌≢◌, ℕ, ◌+◌, ◌<◌, ◌≤◌, List, [], Contains, option_and_then, refl, sym, ap, ◌∙◌, subst, arith}
use Rattle.std.specs.FinMap as map
use Rattle.std.specs.Option.{option_map_or}
use Rattle.tree_model.specs.States.{State, File, Version, file_of, last_serial, last_version}
use Rattle.service_model.specs.Standing.{Update, Work, Made, versions_of, serial_of, last_tree}
use Rattle.service_model.specs.Entries.{on_file}
use Rattle.service_model.specs.Sound.{IsSoundUpdate, IsBased, IsKnown}
use Rattle.service_model.proofs.Files.{other_file}

-- of an object a version with the serial and the tree of this one is kept
pub record HasAlike (state : State) (object : ℕ) (v : Version) : Type 0 where
  pub version : Version
  pub kept : Contains (versions_of state object) version
  pub serial : version.serial ≡ v.serial
  pub tree : version.tree ≡ v.tree

-- from a serial on an object has in another state the versions that it had, and it has none but such as it had
pub record IsAlikeFrom (state other : State) (object first : ℕ) : Type 0 where
  pub there : (v : Version) → Contains (versions_of state object) v → first ≤ v.serial → HasAlike other object v
  pub back : (v : Version) → Contains (versions_of other object) v → HasAlike state object v

-- of the versions made in this run those of an object are the same in two lists
pub record AreSameOf (list others : List Made) (object : ℕ) : Type 0 where
  pub forth : (m : Made) → Contains list m → m.object ≡ object → Contains others m
  pub back : (m : Made) → Contains others m → Contains list m

module _ (state other : State) (list others : List Made) where
  known_alike : (object : ℕ) (u v : Version) → ((x : Version) → Contains (versions_of other object) x → HasAlike state object x)
      → AreSameOf list others object → u.serial ≡ v.serial → u.tree ≡ v.tree → IsKnown state list object u → IsKnown other others object v
  known_alike object u v back same serial tree known = record {
    made = known.made;
    listed = same.forth known.made known.listed known.of_object;
    of_object = known.of_object;
    serial = known.serial ∙ serial;
    tree = sym tree ∙ known.tree;
    before = λ x h next.
        let was = back x h in
        sym was.tree ∙ known.before was.version was.kept (ap (λ n. n + 1) was.serial ∙ next ∙ sym serial);
    only = λ m h of_object is. known.only m (same.back m h) of_object (is ∙ sym serial);
  }

  based_alike : (w : Work) → IsAlikeFrom state other w.object w.serial → IsBased state w → IsBased other w
  based_alike w alike based =
      let serial = based.serial in
      let now = alike.there based.version based.kept (omega (arith, serial)) in
      record {
        version = now.version;
        kept = now.kept;
        serial = now.serial ∙ based.serial;
        tree = now.tree ∙ based.tree;
        steps = based.steps;
      }

  pub alike_update : (u : Update) → ((w : Work) → Contains u.works w → IsAlikeFrom state other w.object w.serial)
      → ((w : Work) → Contains u.works w → AreSameOf list others w.object) → IsSoundUpdate state list u → IsSoundUpdate other others u
  alike_update u alike same sound = record {
    based = λ w h. based_alike w (alike w h) (sound.based w h);
    later = λ w h v kept after.
        let was = (alike w h).back v kept in
        let serial = was.serial in
        let earlier : w.serial < was.version.serial = omega (arith, serial, after) in
        known_alike w.object was.version v (alike w h).back (same w h) was.serial was.tree (sound.later w h was.version was.kept earlier);
    few = sound.few;
    picked = sound.picked;
    differ = sound.differ;
  }

-- ---- objects other than the one that changed

pub same_versions : (a b : State) (object : ℕ) → file_of a object ≡ file_of b object → versions_of a object ≡ versions_of b object
same_versions a b object e = ap (λ o. option_map_or (λ (f : File). f.versions) o []) e

pub same_serial : (a b : State) (object : ℕ) → file_of a object ≡ file_of b object → serial_of a object ≡ serial_of b object
same_serial a b object e = ap (λ o. option_map_or (λ (n : ℕ). n) (option_and_then last_serial o) 0) e

pub same_tree : (a b : State) (object : ℕ) → file_of a object ≡ file_of b object → last_tree a object ≡ last_tree b object
same_tree a b object e = ap (λ o. option_map_or (λ (v : Version). v.tree) (option_and_then last_version o) map.empty) e

module _ (state : State) (object : ℕ) (change : File → File) where
  pub other_versions : (p : ℕ) → p ≢ object → versions_of (on_file state object change) p ≡ versions_of state p
  other_versions p ne = same_versions (on_file state object change) state p (other_file state object change p ne)

  pub other_serial : (p : ℕ) → p ≢ object → serial_of (on_file state object change) p ≡ serial_of state p
  other_serial p ne = same_serial (on_file state object change) state p (other_file state object change p ne)

  pub other_alike : (p first : ℕ) → p ≢ object → IsAlikeFrom state (on_file state object change) p first
  other_alike p first ne = record {
    there = λ v h low. (let F : List Version → Type 0 = λ l. Contains l v in
        record { version = v; kept = subst F (sym (other_versions p ne)) h; serial = refl; tree = refl });
    back = λ v h. (let F : List Version → Type 0 = λ l. Contains l v in
        record { version = v; kept = subst F (other_versions p ne) h; serial = refl; tree = refl });
  }
