-- A step of a client's line, which changes no content and no store.
use Rattle.std.proofs.Common.{◌≡◌, ◌≢◌, inl, inr, ℕ, suc, ◌<◌, ◌≤◌, List, slice_get, Option, Contains, refl, sym, ap, ◌∙◌, subst}
use Rattle.std.specs.Option.{option_and_then, option_map_or}
use Rattle.block_map.specs.declared.states.BlockState.{BlockState}
use Rattle.block_map.specs.declared.states.BlockState.TheVariants.{Held, Kept}
use Rattle.pair_store.specs.Blocks.{SameContents}
use Rattle.service_model.specs.Sound.{is_committing}
use Rattle.service_model.specs.Standing.{Standing, Client, Made, Upkeep, client_of}
use Rattle.std.specs.List.{list_any}
use Rattle.store_changes.specs.Writes.{Content}
use Rattle.store_model.specs.Laid.{LaidVersion}
use Rattle.store_model.specs.Laws.{pages_of, page_of_block}
use Rattle.store_model.proofs.Locality.{laid_alike}
use Rattle.ground_model.specs.Scenes.{Scene, HasVersion, IsLinking, AreLinksOf, IsMapped, IsShared}
use Rattle.ground_model.specs.Leaves.{IsThereAgain, KeepsVersions, LeavesOthers}
use Rattle.ground_model.specs.Steps.{IsLineStep}
use Rattle.ground_model.proofs.Known.{known_same}
use Rattle.ground_model.proofs.MadeOf.{made_of_stays, same_top}

-- contents that are the same show the same pages
pub same_pages : (c d : Content) → SameContents c d → (n : ℕ) → pages_of d n ≡ pages_of c n
same_pages c d same n = ap (λ x. option_and_then page_of_block x) (same n)

-- who sets links still does where other clients alone changed
pub linking_stays : (k : ℕ) (s t : Standing) → ((j : ℕ) → 1 ≤ j → j ≢ k → client_of t j ≡ client_of s j) → (object : ℕ) (l : IsLinking s object) → l.client ≢ k → IsLinking t object
linking_stays k s t others object l ne =
    let same : client_of t l.client ≡ client_of s l.client = others l.client l.number ne in
    record {
      client = l.client;
      update = l.update;
      number = l.number;
      is_open = ap (λ (c : Client). c.update) same ∙ l.is_open;
      several = l.several;
      committed = ap (λ (c : Client). list_any is_committing c.noted) same ∙ l.committed;
      has = l.has;
    }

module _ (k : ℕ) (old : Scene) (content : Content) (states : List BlockState) (standing : Standing) (shared : IsShared old) (step : IsLineStep k old content states standing) where
  abbrev after : Scene
  after = record old { content = content; states = states; standing = standing }

  linked : (object : ℕ) → IsLinking old.standing object → IsLinking standing object
  linked object l = linking_stays k old.standing standing step.only.others object l (step.only.links object l)

  links_stay : AreLinksOf old.store standing
  links_stay = record {
    links = λ object file listed. elim (shared.links.links object file listed) [ inl set ↦ inl set | inr l ↦ inr (linked (suc object) l) ];
    tops = λ version top. linked (suc top.object) (shared.links.tops version top);
    members = λ version top i member at. linked member.object (shared.links.members version top i member at);
  }

  mapped : IsMapped (record old { content = content; states = states; standing = standing })
  mapped = record {
    size = step.size ∙ shared.map.size;
    kept = λ n low. (let both = step.fixed n Kept tt in let was = shared.map.kept n (subst (λ m. n < m) step.size low) in (λ is. was.0 (both.1 is), λ is. both.0 (was.1 is)));
    held = step.held;
    freed = shared.map.freed;
    once = shared.map.once;
    frees = shared.map.frees ∙ ap (λ (o : Option Upkeep). option_map_or (λ (up : Upkeep). up.frees) o 0) (sym step.only.upkeep);
  }

  pub line_shared : IsShared (record old { content = content; states = states; standing = standing })
  line_shared = record {
    some = shared.some;
    laid = laid_alike old.content content old.most old.store old.places shared.laid (sym (step.same 0)) (λ n is. sym (step.same n));
    state = shared.state ∙ sym step.only.state;
    map = mapped;
    made = λ i m version at has serial later. shared.made i m version (ap (λ (ms : List Made). slice_get ms i) (sym step.only.made) ∙ at) has serial later;
    made_of = λ i place m file before version at low listed first second serial.
        made_of_stays old.content content m before.block version.block (λ p n is. same_pages old.content content step.same n) (λ p n is. same_pages old.content content step.same n)
        (same_top old.content content version.block (step.same version.block))
        (shared.made_of i place m file before version (ap (λ (ms : List Made). slice_get ms i) (sym step.only.made) ∙ at) low listed first second serial);
    links = links_stay;
  }

  there_again : (object : ℕ) (version : LaidVersion) → HasVersion old.store object version → IsThereAgain old (record old { content = content; states = states; standing = standing }) object version
  there_again object version has = record {
    again = version;
    is = has;
    serial = refl;
    block = refl;
    tree = refl;
    pages = λ p n at. same_pages old.content content step.same n;
  }

  pub line_versions : KeepsVersions old (record old { content = content; states = states; standing = standing })
  line_versions = there_again

  pub line_leaves : LeavesOthers k old (record old { content = content; states = states; standing = standing })
  line_leaves j low ne = record {
    client = step.only.others j low ne;
    clients = step.only.clients;
    upkeep = λ up mine. (λ is. step.only.upkeep ∙ is, λ is. sym step.only.upkeep ∙ is);
    held = λ n is. ((step.fixed n (Held j) ne).0 is, step.same n);
    versions = λ w version mine. there_again w.object version mine.is;
    made = λ w version mine m is object serial. (let F : List Made → Type 0 = λ ms. Contains ms m in subst F step.only.made is);
    known = λ w on. known_same w.object old.standing.made standing.made step.only.made;
  }
