use Rattle.std.proofs.Common.{subst, sym}
use Rattle.cookie_http.specs.Response.{LacksRoom}
use Rattle.cookie_http.proofs.ResponseLemmas.{LacksRoomFor-walk}
use Rattle.cookie_http.proofs.response.lacks_room.Goals as goal

pub returns-clause-lacks : goal.returns-clause-lacks
returns-clause-lacks c =
    let delta = c.args.jar.now.delta in
    let headers = c.args.headers.now in
    let walk = c.count.ensures in (
      λ yes. (walk.0, walk.1, subst (λ n. LacksRoom n headers) walk.2 (c.lacks_room_for.ensures.lacks.0 yes)),
      λ lacks. c.lacks_room_for.ensures.lacks.1 (subst (λ n. LacksRoom n headers) (sym walk.2) (LacksRoomFor-walk delta walk.0 headers walk.1 lacks)),
    )
