use Rattle.std.proofs.Common.{◌≡◌, List, not, sym, subst, ◌∙◌, ap, rules}
use Rattle.arrayvec.proofs.ArrayVecLemmas.{filter-from_retain}
use Rattle.super_files.specs.declared.locks.Lock.{Lock}
use Rattle.super_files.specs.Locks.{without, AreLocks, is_of}
use Rattle.super_files.proofs.Holding.{locks_less}
use Rattle.super_files.proofs.locks.Locks.release.Goals as goal

kept : (c : goal.After-retain) → c.retain.new.self.items ≡ without c.args.client c.self.inside.list.items
kept c = filter-from_retain _ _ _ (λ x b f' y called. search rules) _ _ c.retain.ensures.filtered

pub invariant_of-self : goal.invariant_of-self
invariant_of-self c =
    let P : List Lock → Type 0 = λ xs. AreLocks xs in
    subst P (sym (kept c)) (locks_less (λ lock. not (is_of c.args.client lock)) c.self.inside.list.items c.self.invariant)

pub returns : goal.returns
returns c = kept c ∙ ap (without c.args.client) c.self.view_is
