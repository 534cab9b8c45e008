use Rattle.std.proofs.Common.{◌≤◌, ℕ, inl, inr, sym, subst, ◌∙◌, arith}
use Rattle.std.specs.List.{All}
use Rattle.playing.proofs.ReadScripts.{all_built, read_length}
use Rattle.playing.proofs.play.afs_play.Goals as goal

pub play_scripts-requires-clause-some : goal.play_scripts-requires-clause-some
play_scripts-requires-clause-some g c =
    let same = read_length g.S.Source c.args.scripts.now c.read_scripts.new.sources c.in-Ok.read.items c.in-Ok.ensures.read in
    let some = c.requires.some in
    omega (arith, same, some)

pub play_scripts-requires-clause-most : goal.play_scripts-requires-clause-most
play_scripts-requires-clause-most g c =
    let same = read_length g.S.Source c.args.scripts.now c.read_scripts.new.sources c.in-Ok.read.items c.in-Ok.ensures.read in
    let few = c.requires.few in
    omega (arith, same, few)

pub play_scripts-requires-clause-built : goal.play_scripts-requires-clause-built
play_scripts-requires-clause-built g c = all_built c.in-Ok.read.items c.in-Ok.ensures.read.built

pub play_scripts-requires-clause-clients : goal.play_scripts-requires-clause-clients
play_scripts-requires-clause-clients g c =
    let same = read_length g.S.Source c.args.scripts.now c.read_scripts.new.sources c.in-Ok.read.items c.in-Ok.ensures.read in
    let F : ℕ → Type 0 = λ n. All (λ k. (1 ≤ k) × (k ≤ n)) c.args.order.now in
    subst F (sym same) c.requires.clients

pub returns-in-Ok : goal.returns-in-Ok
returns-in-Ok g c = record {
  ends = inl (record {
    scripts = c.in-Ok.read.items;
    read = c.in-Ok.ensures.read;
    call = c.play_scripts.ensures;
  });
  taken = c.in-Ok.ensures.taken;
  sources_later = c.in-Ok.ensures.later;
}

pub returns-in-Err : goal.returns-in-Err
returns-in-Err g c = record {
  ends = inr (record {
    cause = c.in-Err.unread;
    unread = c.in-Err.ensures.unread;
    untouched = c.without_journal.ensures.drives;
    noted = c.without_journal.ensures.noted;
    printed = elim c.end_unread-status.ensures.ends [
      | inl h ↦ inl (c.without_journal.ensures.status ∙ h.0, h.1)
      | inr h ↦ inr (c.without_journal.ensures.status ∙ h.0, h.1)
    ];
    later = c.end_unread-status.ensures.later;
  });
  taken = c.in-Err.ensures.taken;
  sources_later = c.in-Err.ensures.later;
}
