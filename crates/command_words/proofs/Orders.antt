-- Words that name clients, one after another, and the order that they make.
use Rattle.std.proofs.Common.{◌≡◌, ℕ, zero, suc, ◌+◌, ◌<◌, List, [], ◌∷◌, ◌++◌, length, take, get_or, String, Global, sym, ap, subst, ◌∙◌, arith}
use Rattle.std.specs.Prelude.{string_bytes}
use Rattle.std.proofs.lemmas.List.{take_more, map-append}
use Rattle.std.proofs.lemmas.Slice.Zip.{all_zipped_more}
use Rattle.script_text.specs.Says.{IsNumberIn}
use Rattle.command_words.specs.Orders.{AreClients}
use Rattle.command_words.specs.Words.{bytes_of}

-- the bytes of one word more
bytes_more : (words : List (String Global)) (i : ℕ) (w : String Global) → i < length words
    → w ≡ get_or words i w → bytes_of (take (i + 1) words) ≡ bytes_of (take i words) ++ string_bytes
    w ∷ []
bytes_more words i w inside is =
    ap bytes_of (take_more words i w inside ∙ ap (λ (x : String Global). take i words ++ x ∷ [])
    (sym is))
    ∙ map-append (λ x. string_bytes x) (take i words) (w ∷ [])

-- one client more
pub clients_more : (scripts : ℕ) (words : List (String Global)) (i : ℕ) (w : String Global)
    (clients : List ℕ) (k : ℕ) → i < length words → w ≡ get_or words i w
    → AreClients scripts (bytes_of (take i words)) clients → IsNumberIn 1 scripts (string_bytes w) k
    → AreClients scripts (bytes_of (take (i + 1) words)) (clients ++ k ∷ [])
clients_more scripts words i w clients k inside is are one =
    subst (λ ws. AreClients scripts ws (clients ++ k ∷ [])) (sym (bytes_more words i w inside is))
    (all_zipped_more (IsNumberIn 1 scripts) (bytes_of (take i words)) clients (string_bytes w) k
    are one)

-- where words name clients, each of them names one
pub client_at : (scripts : ℕ) (words : List (String Global)) (i : ℕ) (w : String Global)
    (clients : List ℕ) → i < length words → w ≡ get_or words i w
    → AreClients scripts (bytes_of words) clients → (k : ℕ) × IsNumberIn 1 scripts (string_bytes w)
    k
client_at scripts [] i w clients inside is are = absurd (omega arith)
client_at scripts (x ∷ xs) i w [] inside is are = absurd are
client_at scripts (x ∷ xs) zero w (k ∷ ks) inside is are =
    (k, subst (λ v. IsNumberIn 1 scripts (string_bytes v) k) (sym is) are.0)
client_at scripts (x ∷ xs) (suc i) w (k ∷ ks) inside is are =
    client_at scripts xs i w ks (omega arith) is are.1
