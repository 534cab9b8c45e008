use Rattle.std.proofs.Common.{◌≡◌, ◌+◌, ◌-◌, ◌++◌, length, ap, ◌∙◌, arith}
use Rattle.std.specs.Option.{option_to_list}
use Rattle.frame_pool.specs.Leasing.{Waiting, unused_run, left}
use Rattle.frame_pool.proofs.Blank.{unused_front, unused_last, none_out}
use Rattle.frame_pool.proofs.leases.Leases.next.Goals as goal
use Rattle.frame_pool.proofs.leases.Leases.next.Goals.{in-Some, in-None}

pub invariant_of-self : goal.invariant_of-self
invariant_of-self g c = (
  omega (arith, c.pop.ensures.len, c.self.invariant.0),
  unused_front _ _ c.self.inside.clients _ c.pop.new.self.items _ c.pop.ensures.items c.self.invariant.1,
)

pub returns-clause-some : goal.returns-clause-some
returns-clause-some g c = elim c.match-pop.branch [
  | in-Some w ↦
      let last = unused_last _ _ c.self.inside.clients _ c.pop.new.self.items w.in-Some.lease (c.pop.ensures.items ∙ ap (λ o. c.pop.new.self.items ++ option_to_list o) w.in-Some.is) c.self.invariant.1 in
      let more : length c.pop.new.self.items + 1 ≡ c.self.inside.rest.len = omega (arith, c.pop.new.self.ok.0, w.in-Some.ensures.cases) in
      let next : c.self.inside.clients - (length c.pop.new.self.items + 1) ≡ c.args.self.now.next = ap (λ n. c.self.inside.clients - n) more ∙ ap (λ (s : Waiting). s.next) c.self.view_is in
      let run : w.in-Some.lease.run ≡ unused_run c.args.self.now.next = last.0 ∙ ap unused_run next in
      rw w.result-is (run, ap left run ∙ none_out 1024, last.1, omega (arith, next, more, c.pop.new.self.ok.0, c.self.invariant.0))
  | in-None w ↦ rw w.result-is tt
]
