-- What is said of texts that were read is said of those that the sources held.
use Rattle.std.proofs.Common.{◌≡◌, ℕ, ◌+◌, List, [], ◌∷◌, length, refl, sym, ap, subst, ◌∙◌}
use Rattle.std.specs.List.{All, AllZip}
use Rattle.std.proofs.lemmas.List.{length-map}
use Rattle.std.proofs.lemmas.List.Elements.{All-head, All-tail}
use Rattle.script_text.specs.declared.refused.LineWhy.{LineWhy}
use Rattle.script_text.specs.declared.script.Mode.TheVariants.{Numbers}
use Rattle.script_text.specs.declared.source.Source.{Ghosts as Reader}
use Rattle.script_text.specs.Grammar.{IsInGrammar}
use Rattle.script_text.specs.ScriptValue.{ScriptValue}
use Rattle.session.specs.Built.{AreBuilt}
use Rattle.playing.specs.Parsing.{AreSaid, IsUnbuiltFor, IsUnparsed}
use Rattle.playing.specs.Sources.{AreHeld, AreKept, IsHeld, IsReadOf, script_of}
use Rattle.playing.specs.Unread.{AreRead, IsFirstBad, IsFirstUnbuilt, IsUnread}
use Rattle.playing.specs.declared.unread.Unread.{Unread}
use Rattle.playing.specs.declared.unread.Unread.TheVariants.{Source, Line, Unbuilt, Memory}
use Rattle.playing.proofs.Cutting.{read_bad, read_good}
use Rattle.playing.proofs.Zips.{ZipParts, zip_length, zip_parts}

-- texts that were read and are in the grammar are those that were held
good_reads : (texts reads : List (List ℕ)) → AllZip IsReadOf texts reads
    → All (IsInGrammar Numbers) reads → reads ≡ texts
good_reads [] [] zip good = refl
good_reads [] (r ∷ reads) zip good = absurd zip
good_reads (t ∷ texts) [] zip good = absurd zip
good_reads (t ∷ texts) (r ∷ reads) zip good =
    let first : r ≡ t
    = read_good Numbers t r zip.0 (All-head (IsInGrammar Numbers) r reads good) in
    let rest : reads ≡ texts
    = good_reads texts reads zip.1 (All-tail (IsInGrammar Numbers) r reads good) in
    λ i. first i ∷ rest i

-- the first bad text of those that were read is that of those that were held
bad_reads : (texts reads : List (List ℕ)) (client line : ℕ) (why : LineWhy)
    → AllZip IsReadOf texts reads → IsFirstBad reads client line why
    → IsFirstBad texts client line why
bad_reads texts reads client line why zip bad =
    let parts : ZipParts IsReadOf texts bad.earlier bad.text bad.later
    = zip_parts IsReadOf texts bad.earlier bad.text bad.later
    (subst (AllZip IsReadOf texts) bad.parts zip) in
    let same : bad.earlier ≡ parts.before
    = good_reads parts.before bad.earlier parts.front bad.good in
    record {
      earlier = parts.before;
      text = parts.item;
      later = parts.after;
      parts = parts.are;
      number = bad.number ∙ ap (λ xs. length xs + 1) same;
      good = subst (All (IsInGrammar Numbers)) same bad.good;
      bad = read_bad Numbers parts.item bad.text line why parts.one bad.bad;
    }

module _ {S : Type 0} (reader : Reader S) (old new : List S) (texts reads : List (List ℕ))
    (held : AreHeld reader old texts) (zip : AllZip IsReadOf texts reads)
    (kept : AreKept reader old new) where
  -- a text was refused
  pub unread_bad : (unread : Unread) → IsUnparsed reads unread → IsUnread reader old new unread
  unread_bad (Source client) h = absurd h
  unread_bad (Line client line why) h = record {
    texts = texts;
    held = held;
    first = bad_reads texts reads client line why zip h;
    kept = kept;
  }
  unread_bad (Unbuilt client line) h = absurd h
  unread_bad Memory h = kept

  -- a line is not played
  pub unread_built : (scripts : List ScriptValue) → AreSaid reads scripts → (unread : Unread)
      → IsUnbuiltFor scripts unread → IsUnread reader old new unread
  unread_built scripts said (Source client) h = absurd h
  unread_built scripts said (Line client line why) h = absurd h
  unread_built scripts said (Unbuilt client line) h = record {
    texts = reads;
    held = subst (AreHeld reader old) (sym (good_reads texts reads zip said.grammar)) held;
    grammar = said.grammar;
    first = subst (λ ss. IsFirstUnbuilt ss client line) said.said h;
    kept = kept;
  }
  unread_built scripts said Memory h = absurd h

  -- all scripts are played
  pub read_all : (scripts : List ScriptValue) → AreSaid reads scripts → All AreBuilt scripts
      → AreRead reader old new scripts
  read_all scripts said built = record {
    texts = reads;
    held = subst (AreHeld reader old) (sym (good_reads texts reads zip said.grammar)) held;
    grammar = said.grammar;
    said = said.said;
    built = built;
    kept = kept;
  }

  -- there are as many texts as sources, and as many scripts
  pub as_many_texts : length reads ≡ length old
  as_many_texts =
      zip_length IsReadOf texts reads zip
      ∙ zip_length (λ (s : S) (text : List ℕ). IsHeld (reader.left s) text) old texts held

  pub as_many_scripts : (scripts : List ScriptValue) → AreSaid reads scripts
      → length scripts ≡ length old
  as_many_scripts scripts said =
      ap (λ (ss : List ScriptValue). length ss) said.said ∙ length-map reads script_of
      ∙ as_many_texts
