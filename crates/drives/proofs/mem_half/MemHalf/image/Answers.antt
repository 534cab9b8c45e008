use Rattle.std.proofs.Common.{Result, Ok, Err, IfOk}
use Rattle.drives.proofs.Recording.{left_by_record}
use Rattle.drives.proofs.mem_half.MemHalf.image.Goals as goal

-- what follows from two facts of a value
each_ok : {T E : Type 0} (r : Result T E) (P Q R : T → Type 0) → ((x : T) → P x → Q x → R x) → IfOk r P → IfOk r Q → IfOk r R
each_ok (Ok x) P Q R h p q = h x p q
each_ok (Err e) P Q R h p q = tt

pub returns-clause-left : goal.returns-clause-left
returns-clause-left c =
    let half = c.args.self.now in
    each_ok c.image_at.result _ _ _
    (λ image fits is. left_by_record half.first.items c.args.moment half.events half.calls.items c.args.pick image.items half.made fits is)
    c.image_at.ensures.fits c.image_at.ensures.replayed
