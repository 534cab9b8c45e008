-- Chains of versions: one version more, and that there is one chain from a block on.
use Rattle.std.proofs.Common.{◌≡◌, ℕ, List, [], ◌∷◌, ◌++◌, refl, sym, ap, subst, ◌∙◌, Option, Some, None}
use Rattle.std.specs.Option.{option_map_or}
use Rattle.page_codec.specs.Values.{VersionValue}
use Rattle.version_chain.specs.Chain.{Versions, AreLinked, IsChain, last_of, Followed, ReadsOn, Ends}

version_is : (x y : VersionValue) → Some x ≡ Some y → x ≡ y
version_is x y e = ap (λ (o : Option VersionValue). option_map_or (λ (v : VersionValue). v) o x) e

linked_more : (versions : Versions) (next : Option ℕ) (blocks : List ℕ) (b : ℕ) (version : VersionValue)
    → AreLinked versions next blocks (Some b) → versions b ≡ Some version → AreLinked versions next (blocks ++ b ∷ []) version.commit
linked_more versions next [] b version is holds =
    let F : Option ℕ → Type 0 = λ o. AreLinked versions o (b ∷ []) version.commit in
    subst F is (version, refl, holds, refl)
linked_more versions None (x ∷ blocks) b version linked holds = absurd linked
linked_more versions (Some at) (x ∷ blocks) b version linked holds =
    (linked.0, linked.1, linked.2, linked_more versions linked.0.commit blocks b version linked.3 holds)

last_append : (first : ℕ) (blocks : List ℕ) (b : ℕ) → last_of first (blocks ++ b ∷ []) ≡ b
last_append first [] b = refl
last_append first (x ∷ blocks) b = last_append x blocks b

pub reads_on : (old new : Followed) (version : VersionValue) → old.next ≡ Some new.last → new.next ≡ version.commit → ReadsOn old new new.last version
reads_on old new version needed then_next versions first blocks read holds =
    let F : Option ℕ → Type 0 = λ o. AreLinked versions (Some first) blocks o in
    let G : Option ℕ → Type 0 = λ o. AreLinked versions (Some first) (blocks ++ new.last ∷ []) o in
    record {
      linked = subst G (sym then_next) (linked_more versions (Some first) blocks new.last version (subst F needed read.linked) holds);
      last = sym (last_append first blocks new.last);
    }

-- the blocks are the only ones that are linked so
linked_only : (versions : Versions) (next : Option ℕ) (xs ys : List ℕ) → AreLinked versions next xs None → AreLinked versions next ys None → ys ≡ xs
linked_only versions None [] [] h g = refl
linked_only versions None [] (y ∷ ys) h g = absurd g
linked_only versions None (x ∷ xs) ys h g = absurd h
linked_only versions (Some at) [] ys h g = absurd (cc)
linked_only versions (Some at) (x ∷ xs) [] h g = absurd (cc)
linked_only versions (Some at) (x ∷ xs) (y ∷ ys) h g =
    let is : y ≡ x = g.1 ∙ sym h.1 in
    let one : g.0 ≡ h.0 = version_is g.0 h.0 (sym g.2 ∙ ap versions is ∙ h.2) in
    let F : VersionValue → Type 0 = λ v. AreLinked versions v.commit ys None in
    let rest : ys ≡ xs = linked_only versions h.0.commit xs ys h.3 (subst F one g.3) in
    λ i. is i ∷ rest i

pub ends : (followed : Followed) (last : ℕ) → last ≡ followed.last → Ends followed last
ends followed last is done versions first blocks read =
    let F : Option ℕ → Type 0 = λ o. AreLinked versions (Some first) blocks o in
    let chain : IsChain versions first blocks = subst F done read.linked in
    record {
      chain = chain;
      only = λ others linked. linked_only versions (Some first) blocks others chain linked;
      last_is = is ∙ read.last;
    }
