-- Texts that are parsed one after another.
use Rattle.std.proofs.Common.{◌≡◌, ℕ, suc, ◌+◌, ◌<◌, List, [], ◌∷◌, ◌++◌, length, map, take, drop, get_or, Vec, Global, sym, ap, subst, ◌∙◌, arith}
use Rattle.std.proofs.lemmas.List.{length-map, length-take-le, map-append, take_more}
use Rattle.std.proofs.lemmas.List.Elements.{All-push}
use Rattle.script_text.specs.declared.script.Mode.TheVariants.{Numbers}
use Rattle.script_text.specs.Grammar.{IsInGrammar}
use Rattle.script_text.specs.ScriptValue.{ScriptValue}
use Rattle.playing.specs.Parsing.{AreSaid, IsRefusedFor, IsUnparsed}
use Rattle.playing.specs.Sources.{script_of}
use Rattle.playing.specs.Taking.{bytes_of}
use Rattle.playing.specs.declared.unread.Unread.{Unread}
use Rattle.playing.specs.declared.unread.Unread.TheVariants.{Source, Line, Unbuilt, Memory}
use Rattle.playing.proofs.Sourcing.{parts_at}

-- one text more
pub said_more : (texts : List (Vec ℕ Global)) (place : ℕ) (text : Vec ℕ Global)
    (scripts : List ScriptValue) (script : ScriptValue) → place < length texts
    → text ≡ get_or texts place text → AreSaid (bytes_of (take place texts)) scripts
    → IsInGrammar Numbers text.items → script ≡ script_of text.items
    → AreSaid (bytes_of (take (place + 1) texts)) (scripts ++ script ∷ [])
said_more texts place text scripts script inside is far grammar said =
    let before : List (List ℕ) = bytes_of (take place texts) in
    let more : bytes_of (take (place + 1) texts) ≡ before ++ text.items ∷ []
    = ap bytes_of (take_more texts place text inside
    ∙ ap (λ (t : Vec ℕ Global). take place texts ++ t ∷ []) (sym is))
    ∙ map-append (λ (t : Vec ℕ Global). t.items) (take place texts) (text ∷ []) in
    subst (λ done. AreSaid done (scripts ++ script ∷ [])) (sym more) (record {
      grammar = All-push (IsInGrammar Numbers) before text.items far.grammar grammar;
      said = ap (λ ss. ss ++ script ∷ []) far.said
          ∙ ap (λ (s : ScriptValue). map script_of before ++ s ∷ []) said
          ∙ sym (map-append script_of before (text.items ∷ []));
    })

-- the first text that is refused
pub first_refused : (texts : List (Vec ℕ Global)) (place : ℕ) (text : Vec ℕ Global)
    (scripts : List ScriptValue) (client : ℕ) (unread : Unread) → place < length texts
    → text ≡ get_or texts place text → AreSaid (bytes_of (take place texts)) scripts
    → client ≡ place + 1 → IsRefusedFor client text.items unread
    → IsUnparsed (bytes_of texts) unread
first_refused texts place text scripts client (Source failed) inside is far number refused =
    absurd refused
first_refused texts place text scripts client (Line bad line why) inside is far number refused =
    let items : List (Vec ℕ Global) → List (List ℕ) = bytes_of in
    let many : length (items (take place texts)) ≡ place
    = length-map (take place texts) (λ (t : Vec ℕ Global). t.items)
    ∙ length-take-le place texts (omega arith) in
    record {
      earlier = bytes_of (take place texts);
      text = text.items;
      later = bytes_of (drop (suc place) texts);
      parts = ap bytes_of (parts_at texts place text inside
          ∙ ap (λ (t : Vec ℕ Global). take place texts ++ t ∷ drop (suc place) texts) (sym is))
          ∙ map-append (λ (t : Vec ℕ Global). t.items) (take place texts)
          (text ∷ drop (suc place) texts);
      number = refused.0 ∙ number ∙ ap (λ n. n + 1) (sym many);
      good = far.grammar;
      bad = refused.1;
    }
first_refused texts place text scripts client (Unbuilt bad line) inside is far number refused =
    absurd refused
first_refused texts place text scripts client Memory inside is far number refused = tt
