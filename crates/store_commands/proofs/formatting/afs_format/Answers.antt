use Rattle.std.proofs.Common.{inl, refl, ◌∙◌, arith}
use Rattle.drives.proofs.Composing.{stays}
use Rattle.endings.specs.declared.status.Status.TheVariants.{Memory}
use Rattle.new_store.specs.declared.store.NewStore.{NewStore}
use Rattle.new_store.specs.Fresh.{OldNoneOrNew}
use Rattle.pair_store.specs.Content.{ContentsLeft}
use Rattle.store_commands.proofs.FormatCalls.{format_so}
use Rattle.store_commands.proofs.formatting.afs_format.Goals as goal

pub returns-in-Err : goal.returns-in-Err
returns-in-Err g c =
    let V = g.V.Drives in
    let K = g.K.Sink in
    let start = c.args.drives in
    let r = c.requires.range in
    let s : NewStore = record {
      key = c.args.key;
      files = c.args.files;
      blocks = c.args.blocks;
      word = c.ranges.key.fits;
      some = r.some;
      most = r.most;
      room = r.room;
      fits = r.fits;
    } in
    record {
      store = s;
      key_same = refl;
      files_same = refl;
      blocks_same = refl;
      call = format_so V K s start c.args.out.now c.end_memory-status.new.out c.without_journal.result Memory start
          (c.without_journal.ensures.status ∙ c.end_memory-status.ensures.status) c.without_journal.ensures.drives
          (record {
            ends = c.end_memory-status.ensures.prints;
            complete = λ _ _. tt;
            stands = λ _ _. stays V.moment (ContentsLeft V.may_leave) start (OldNoneOrNew s (V.size start)) (g.met.V.Drives.clock start) (λ f. inl refl);
            beyond = λ _ _ _. refl;
            lasts = λ _ made. absurd made;
            rest = λ _ made. absurd made;
            unmade = λ _. refl;
            noted = c.without_journal.ensures.noted;
            size_same = refl;
            later = λ h. (omega arith, omega arith);
            sink_later = c.end_memory-status.ensures.later;
          });
    }
