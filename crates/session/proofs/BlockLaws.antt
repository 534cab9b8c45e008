-- What is told of a store that tells its contents, as the turns of a commit use it.
use Rattle.std.proofs.Common.{◌≡◌, ℕ, ◌<◌, ◌^◌, List, length, Some, refl}
use Rattle.std.specs.Prelude.{slice_index}
use Rattle.drives.specs.Bytes.{IsBytes}
use Rattle.drives.proofs.Composing.{stays}
use Rattle.pair_store.specs.Blocks.{SameContents}
use Rattle.pair_store.specs.declared.store.Blocks.{Ghosts}
use Rattle.store_changes.specs.Writes.{Content}
use Rattle.ground_model.specs.LineTurns.{HeldWriteStops, LineTurnStands}
use Rattle.ground_model.specs.Runs.{IsRead}
use Rattle.ground_model.specs.Stops.{ReadStops}
use Rattle.ground_model.specs.Tests.{LinkStops, SetRewrites}
use Rattle.ground_model.specs.Turns.{AnsweredLinkStands}
use Rattle.ground_model.specs.Writing.{WriteTurnStands}
use Rattle.ground_model.proofs.AnsweredLinks.{answered_link_stands}
use Rattle.ground_model.proofs.HeldStops.{held_write_stops}
use Rattle.ground_model.proofs.LineTurns.{line_turn_stands}
use Rattle.ground_model.proofs.Stopping.{read_stops}
use Rattle.ground_model.proofs.Testing.{link_stops, set_rewrites}
use Rattle.ground_model.proofs.Writing.{write_turn_stands}

pub record BlockLaws {D : Type 0} (b : Ghosts D) : Type 0 where
  pub calm : (s : D) → IsRead b s s
  pub lines : LineTurnStands b
  pub reads : ReadStops b
  pub writes : WriteTurnStands b
  pub write_faults : HeldWriteStops b
  pub came : SetRewrites b
  pub links : AnsweredLinkStands b
  pub link_faults : LinkStops b

pub block_laws : {D : Type 0} (b : Ghosts D) → ((s : D) → b.moment s < 2 ^ 64)
    → ((s : D) (n : ℕ) (f : Content) → b.tells → b.settled_always s n → b.may_leave s (b.moment s) f → f n ≡ b.content s n)
    → ((s : D) (n : ℕ) (body : List ℕ) → b.tells → n < b.size s → b.content s n ≡ Some body → (length body ≡ 1024) × (slice_index body 0 ≡ 165))
    → ((s : D) (n : ℕ) (body : List ℕ) → b.tells → b.content s n ≡ Some body → IsBytes body) → b.tells → BlockLaws b
block_laws {D} b clock left whole bytes told =
    let settled_left : (s : D) (n : ℕ) (f : Content) → b.settled_always s n → b.may_leave s (b.moment s) f → f n ≡ b.content s n = λ s n f always may. left s n f told always may in
    record {
      calm = λ s. record { size = refl; same = λ n. refl; settled = λ n is. is; settled_always = λ n is. is; images = stays b.moment b.may_leave s SameContents (clock s) (λ f n. refl) };
      lines = line_turn_stands b settled_left;
      reads = read_stops b settled_left;
      writes = write_turn_stands b settled_left;
      write_faults = held_write_stops b settled_left;
      came = set_rewrites b told (λ s n body low holds. record { size = (whole s n body told low holds).0; fits = bytes s n body told holds });
      links = answered_link_stands b settled_left;
      link_faults = link_stops b settled_left;
    }
