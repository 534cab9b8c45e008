-- The call that makes a store, by its numbers and by the store.
use Rattle.std.proofs.Common.{subst}
use Rattle.command_words.proofs.Stores.{same_store}
use Rattle.drives.specs.declared.device.Drives.{Ghosts as Device}
use Rattle.endings.specs.declared.ended.Ended.{Ended}
use Rattle.new_store.specs.declared.store.NewStore.{NewStore}
use Rattle.script_text.specs.declared.sink.Sink.{Ghosts as Printer}
use Rattle.store_commands.specs.Calls.{FormatCall, FormatsNew}

-- the call that makes a store of these numbers makes this store
pub formats_store : {V K : Type 0} (v : Device V) (k : Printer K) (store : NewStore) (drives : V) (out : K) (ended : Ended V) (out_after : K)
    → FormatsNew v k store.key store.files store.blocks drives out ended out_after → FormatCall v k store drives out ended out_after
formats_store v k store drives out ended out_after made =
    let F : NewStore → Type 0 = λ s. FormatCall v k s drives out ended out_after in
    subst F (same_store made.store store made.key_same made.files_same made.blocks_same) made.call
