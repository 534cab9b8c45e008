-- How a line ends: with its answer, and where it is the script's last one, with the update that is given up.
use Rattle.std.proofs.Common.{◌≡◌, ◌≢◌, ℕ, zero, suc, ◌+◌, Bool, true, false, ◌&&◌, cond, List, [], ◌∷◌, ◌++◌, length, length-append, Option, Some, None, refl, sym, ap, ◌∙◌, subst, slice_get, append_assoc, eqb-true}
use Rattle.std.specs.List.{list_any, list_all}
use Rattle.std.specs.Option.{option_map_or}
use Rattle.script_text.specs.ScriptValue.{ScriptValue}
use Rattle.script_text.specs.declared.reply.LineReply.{LineReply}
use Rattle.script_text.specs.declared.script.Line.{Line}
use Rattle.service_model.specs.declared.journal.Entry.{Entry}
use Rattle.service_model.specs.declared.journal.What.TheVariants.{Answered, GivenUp}
use Rattle.service_model.specs.Entries.{without_update}
use Rattle.service_model.specs.Standing.{Scripts, Standing, Client, Update, client_of, has_file, has_locked, lines_of, next_line}
use Rattle.ground_model.specs.Fronts.{is_change}
use Rattle.ground_model.specs.Lines.{Notes, in_line}
use Rattle.ground_model.specs.Scenes.{IsLinking, Scene}
use Rattle.ground_model.proofs.LineTurns.{uncommitted_sets_none}
use Rattle.ground_model.proofs.Noted.{answer_ends}
use Rattle.session.specs.Answers.{ending, gives_up}
use Rattle.session.specs.Ends.{AreOf}
use Rattle.service_model.specs.Sound.{is_committing}
use Rattle.session.specs.Own.{IsAtRest, IsSeated}
use Rattle.session.specs.Safe.{line_of}
use Rattle.session.specs.declared.course.Course.{Course}
use Rattle.session.proofs.Going.{always_due, is_always_due}

-- ---- updates of one file

-- The update of a client, where it has one, is of one file.
abbrev pub HasPlain : Client → Type 0
HasPlain c = (u : Update) → c.update ≡ Some u → u.is_super ≡ false

pub plain_locks_none : (c : Client) → HasPlain c → (object : ℕ) → has_locked object c ≡ false
plain_locks_none c plain object = by c.update plain
  where
    by : (o : Option Update) → ((u : Update) → o ≡ Some u → u.is_super ≡ false) → option_map_or (λ (u : Update). u.is_super && has_file object u) o false ≡ false
    by None h = refl
    by (Some u) h = ap (λ b. b && has_file object u) (h u refl)

-- a client between two lines sets no links
pub rest_sets_none : (scripts : Scripts) (scene : Scene) (script : ScriptValue) (s : Course) → IsAtRest scripts scene script s → (object : ℕ) (l : IsLinking scene.standing object) → l.client ≢ s.client
rest_sets_none scripts scene script s rest = uncommitted_sets_none scene.standing s.client (ap (list_any is_committing) rest.fresh)

-- ---- the end of a line

-- A client as its line ends: its update may be given up.
abbrev pub left_with : Client → Bool → Client
left_with c false = c
left_with c true = without_update c

-- whom it leaves has locked what it had, or nothing
pub left_locks : (c : Client) (b : Bool) (object : ℕ) → has_locked object (left_with c b) ≡ cond b false (has_locked object c)
left_locks c false object = refl
left_locks c true object = refl

pub left_answers : (c : Client) (b : Bool) → (left_with c b).answers ≡ c.answers
left_answers c false = refl
left_answers c true = refl

pub left_noted : (c : Client) (b : Bool) → (left_with c b).noted ≡ c.noted
left_noted c false = refl
left_noted c true = refl

pub left_held : (c : Client) (b : Bool) → c.held ≡ 0 → (left_with c b).held ≡ 0
left_held c false none = none
left_held c true none = refl

pub ending_is_due : (k : ℕ) (line : Line) (b : Bool) → list_all (λ (e : Entry). is_always_due e.what) (ending k line b) ≡ true
ending_is_due k line false = refl
ending_is_due k line true = refl

pub ending_untimed : (k : ℕ) (line : Line) (b : Bool) → list_any is_change (ending k line b) ≡ false
ending_untimed k line false = refl
ending_untimed k line true = refl

ending_own : (k : ℕ) (line : Line) (b : Bool) (n : ℕ) (e : Entry) → slice_get (ending k line b) n ≡ Some e → e.client ≡ k
ending_own k line false zero e at = (let same : in_line k line Answered ≡ e = cc in ap (λ (x : Entry). x.client) (sym same))
ending_own k line false (suc n) e at = absurd (cc at)
ending_own k line true zero e at = (let same : in_line k line Answered ≡ e = cc in ap (λ (x : Entry). x.client) (sym same))
ending_own k line true (suc zero) e at = (let same : in_line k line GivenUp ≡ e = cc in ap (λ (x : Entry). x.client) (sym same))
ending_own k line true (suc (suc n)) e at = absurd (cc at)

-- the last entries of a line are its client's, and due
pub ending_of : (scripts : Scripts) (s : Standing) (k : ℕ) (line : Line) (b : Bool) → AreOf scripts s k (ending k line b)
ending_of scripts s k line b = record { own = ending_own k line b; due = always_due scripts s (ending k line b) (ending_is_due k line b) }

module _ (scripts : Scripts) (script : ScriptValue) (scene : Scene) (s : Course) (seated : IsSeated scripts scene script s) where
  pub its_lines : lines_of scripts s.client ≡ script.lines
  its_lines = ap (λ o. option_map_or (λ (x : ScriptValue). x.lines) o []) seated.its_script

  pub its_next : next_line scripts scene.standing s.client ≡ line_of script s
  its_next =
      ap (λ xs. slice_get xs (length (client_of scene.standing s.client).answers)) its_lines
      ∙ ap (λ (rs : List LineReply). slice_get script.lines (length rs)) seated.answers

  module _ (line : Line) (next : line_of script s ≡ Some line) (es : List Entry) (c : Client) (reply : LineReply)
      (notes : Notes scripts scene.standing s.client (es ++ in_line s.client line Answered ∷ []) c) (answers : c.answers ≡ s.replies.items ++ reply ∷ []) where
    ended_last : (u : Update) → c.update ≡ Some u → length s.replies.items + 1 ≡ length script.lines
        → Notes scripts scene.standing s.client (es ++ in_line s.client line Answered ∷ in_line s.client line GivenUp ∷ []) (without_update c)
    ended_last u is last =
        let one : length c.answers ≡ length s.replies.items + 1 = ap length answers ∙ length-append s.replies.items (reply ∷ []) in
        subst (λ xs. Notes scripts scene.standing s.client xs (without_update c)) (append_assoc es (in_line s.client line Answered ∷ []) (in_line s.client line GivenUp ∷ []))
        (answer_ends scripts scene.standing s.client line es c u (record {
          client = seated.client;
          next = its_next ∙ next;
          notes = notes;
          answers = one ∙ ap (λ (rs : List LineReply). length rs + 1) (sym seated.answers);
          all = one ∙ last ∙ ap length (sym its_lines);
        }) is)

    ended_by : (b : Bool) (at_end : b ≡ true → length s.replies.items + 1 ≡ length script.lines) → (b ≡ true → (u : Update) × (c.update ≡ Some u))
        → Notes scripts scene.standing s.client (es ++ ending s.client line b) (left_with c b)
    ended_by false at_end open_is = notes
    ended_by true at_end open_is = ended_last (open_is refl).0 (open_is refl).1 (at_end refl)

    given_at_end : (n : ℕ) → gives_up script s n ≡ true → length s.replies.items + 1 ≡ length script.lines
    given_at_end zero given = absurd (cc given)
    given_at_end (suc n) given = eqb-true (length s.replies.items + 1) (length script.lines) given

    given_open : (n : ℕ) → (n ≢ 0 → (u : Update) × (c.update ≡ Some u)) → gives_up script s n ≡ true → (u : Update) × (c.update ≡ Some u)
    given_open zero open_is given = absurd (cc given)
    given_open (suc n) open_is given = open_is (λ e. absurd (cc e))

    -- what is noted in the end, where the client has an update as it has drafts
    pub ended : (n : ℕ) → (n ≢ 0 → (u : Update) × (c.update ≡ Some u))
        → Notes scripts scene.standing s.client (es ++ ending s.client line (gives_up script s n)) (left_with c (gives_up script s n))
    ended n open_is = ended_by (gives_up script s n) (given_at_end n) (given_open n open_is)
