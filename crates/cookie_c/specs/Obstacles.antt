-- Why a request doesn't send a stored cookie, for C (RFC 6265bis, Retrieval Algorithm).
use Rattle.std.specs.Prelude.{◌≡◌, ℕ, sum_by, Option, Some, None, slice_get, if◌then◌else◌}
use Rattle.jiff.specs.Types.{DateTime}
use Rattle.cookie_browser.specs.Request.{RequestView}
use Rattle.cookie_browser.specs.Storage.{CookieStore, KeptView}
use Rattle.cookie_agent.specs.Obstacles.{keeps, obstacles}
use Rattle.cookie_agent.specs.declared.obstacle.Obstacle.{Obstacle}
use Rattle.cookie_agent.specs.declared.obstacle.Obstacle.TheVariants as obstacle
use Rattle.cookie_c.specs.Agents.{ForRequest}
use Rattle.cookie_c.specs.Codes.{code_of}
use Rattle.cookie_c.specs.declared.agent.obstacles.Obstacles.{Obstacles}
use Rattle.cookie_c.specs.declared.explanation.request.Request.{Request}
use Rattle.cookie_c.specs.declared.status.Status.{Status}
use Rattle.cookie_c.specs.declared.status.Status.TheVariants as status

-- the number of an obstacle: a bit of its own
abbrev pub obstacle_number : Obstacle → ℕ
obstacle_number obstacle.Expired = 1
obstacle_number obstacle.Host = 2
obstacle_number obstacle.Path = 4
obstacle_number obstacle.Connection = 8
obstacle_number obstacle.SameSite = 16

-- the sum of the numbers of the obstacles that keep the cookie from being sent
abbrev pub obstacles_number : RequestView → DateTime → KeptView → ℕ
obstacles_number site now cookie =
    sum_by (λ each. if keeps each site now cookie then obstacle_number each else 0) obstacles

-- the answer of a refused call
abbrev pub no_obstacles : Status → Obstacles
no_obstacles why = record { status = code_of why; obstacles = 0 }

-- what keeps the cookie is told; `NotFound` if there is no cookie
abbrev pub TellsObstacles : RequestView → DateTime → Option KeptView → Obstacles → Type 0
TellsObstacles site now None answer = answer ≡ no_obstacles status.NotFound
TellsObstacles site now (Some cookie) answer =
    answer ≡ record {
      status = code_of status.Done;
      obstacles = obstacles_number site now cookie;
    }

-- what keeps the cookie at this index from the request is told, in that second
abbrev pub TellsObstaclesIn : ℕ → Request → ℕ → CookieStore → Obstacles → Type 0
TellsObstaclesIn index request second store answer =
    ForRequest request second
    (λ site now. TellsObstacles site now (slice_get store index) answer)
    (λ why. answer ≡ no_obstacles why)

-- `TellsObstaclesIn` for the agent in the handle; `NoAgent` if it has none
abbrev pub TellsObstaclesAt : ℕ → Request → ℕ → Option CookieStore → Obstacles → Type 0
TellsObstaclesAt index request second None answer = answer ≡ no_obstacles status.NoAgent
TellsObstaclesAt index request second (Some store) answer =
    TellsObstaclesIn index request second store answer
