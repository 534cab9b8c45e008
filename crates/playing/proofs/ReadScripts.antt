-- What scripts that were read are to a run of them.
use Rattle.std.proofs.Common.{◌≡◌, ℕ, zero, suc, List, [], ◌∷◌, length, None, Some, ap, subst, ◌∙◌}
use Rattle.std.specs.List.{All}
use Rattle.std.proofs.lemmas.List.{length-map}
use Rattle.std.proofs.lemmas.List.Elements.{All-head, All-tail}
use Rattle.ground.specs.Making.{AreAllBuilt}
use Rattle.script_text.specs.declared.source.Source.{Ghosts as Reader}
use Rattle.service_model.specs.Standing.{Scripts}
use Rattle.session.specs.Built.{AreBuilt}
use Rattle.playing.specs.Sources.{IsHeld, script_of}
use Rattle.playing.specs.Unread.{AreRead}
use Rattle.playing.proofs.Zips.{zip_length}

-- there are as many as sources
pub read_length : {S : Type 0} (reader : Reader S) (old new : List S) (scripts : Scripts)
    → AreRead reader old new scripts → length scripts ≡ length old
read_length {S} reader old new scripts read =
    ap (λ (ss : Scripts). length ss) read.said ∙ length-map read.texts script_of
    ∙ zip_length (λ (s : S) (text : List ℕ). IsHeld (reader.left s) text) old read.texts read.held

-- all their lines are played
pub all_built : (scripts : Scripts) → All AreBuilt scripts → AreAllBuilt scripts
all_built [] all i script is = absurd (let no : None ≡ Some script = is in cc)
all_built (s ∷ scripts) all zero script is =
    let one : s ≡ script = cc in subst AreBuilt one (All-head AreBuilt s scripts all)
all_built (s ∷ scripts) all (suc i) script is = all_built scripts (All-tail AreBuilt s scripts all) i script is
