-- What is known of the versions of an object that were made in this run stays known.
use Rattle.std.proofs.Common.{◌≡◌, ℕ, List, [], ◌++◌, ◌==◌, sym, ap, ◌∙◌, append-nil, append_assoc}
use Rattle.std.proofs.lemmas.List.Elements.{filter-append}
use Rattle.service_model.specs.Standing.{Made}
use Rattle.ground_model.specs.Leaves.{IsKnownStill, made_of}

-- where the same were made
pub known_same : (object : ℕ) (old new : List Made) → new ≡ old → IsKnownStill object old new
known_same object old new same = record { more = []; are = ap (made_of object) same ∙ sym (append-nil (made_of object old)) }

-- where some more were made
pub known_more : (object : ℕ) (old news new : List Made) → new ≡ old ++ news → IsKnownStill object old new
known_more object old news new more = record {
  more = made_of object news;
  are = ap (made_of object) more ∙ filter-append (λ (m : Made). m.object == object) old news;
}

-- from one turn to the next
pub known_on : (object : ℕ) (old mid new : List Made) → IsKnownStill object old mid → IsKnownStill object mid new → IsKnownStill object old new
known_on object old mid new one two = record {
  more = one.more ++ two.more;
  are = two.are ∙ ap (λ (ms : List Made). ms ++ two.more) one.are ∙ append_assoc (made_of object old) one.more two.more;
}
