use Rattle.std.proofs.Common.{◌≡◌, ◌<◌, ◌++◌, length, replicate, refl, ◌∙◌, arith}
use Rattle.page_codec.specs.Blank.{empty_page}
use Rattle.frame_pool.proofs.Unwritten.{count_of_all, set_in_front, got_in_front}
use Rattle.frame_pool.proofs.pool.Pool.page_mut.Goals as goal

pub write_up_to-requires-clause-among : goal.write_up_to-requires-clause-among
write_up_to-requires-clause-among c =
    let pool = c.self.inside in
    omega (arith, c.requires, c.place-place.ensures, pool.pages.ok.0, count_of_all pool.pages.items _ (empty_page 0) pool.unwritten c.self.view_is)

pub returns : goal.returns
returns c =
    let pages = c.write_up_to.new.pages in
    let behind = replicate c.write_up_to.new.unwritten (empty_page 0) in
    let place = c.place-place.result in
    let all : pages.items ++ behind ≡ c.args.self.now = c.write_up_to.ensures.same ∙ c.self.view_is in
    let within : place < length pages.items = omega (arith, c.write_up_to.ensures.written, pages.ok.0) in (
      (refl, λ w. set_in_front pages.items behind _ place _ w all c.place-place.ensures within),
      record { writes_back = tt; value = got_in_front pages.items behind _ place _ _ all c.place-place.ensures within c.index_mut.ensures.value },
    )
