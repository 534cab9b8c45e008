use Rattle.std.proofs.Common.{◌≡◌, List, sym, ap, subst, ◌∙◌, option_map}
use Rattle.std.specs.List.{find}
use Rattle.super_files.specs.declared.locks.Lock.{Lock}
use Rattle.super_files.specs.Locks.{is_on}
use Rattle.super_files.proofs.Holding.{Tells, first_tells}
use Rattle.super_files.proofs.locks.Locks.holder.Goals as goal

pub returns : goal.returns
returns c =
    let same : c.as_slice.result.now ≡ c.args.self.now = c.as_slice.ensures.value ∙ c.self.view_is in
    let first : c.first_on.result ≡ option_map (λ lock. lock.client) (find (is_on c.args.object) c.args.self.now) =
    c.first_on.ensures ∙ ap (λ (xs : List Lock). option_map (λ lock. lock.client) (find (is_on c.args.object) xs)) same in
    subst (Tells c.args.object c.args.self.now) (sym first) (first_tells c.args.object c.args.self.now)
