-- Requests as the other side reads them.
use Rattle.std.specs.Prelude.{◌≡◌, ℕ, ◌<◌, ◌≤◌, ◌^◌, true, false, IsTrue, List, [], length, All, if◌then◌else◌}
use Rattle.http_head.specs.Target.{is_well_escaped, path_of, query_of}
use Rattle.http_head.specs.declared.head.Method.{Method}
use Rattle.http_head.specs.declared.head.Head.{Head}
use Rattle.http_head.specs.declared.body.BodyKind.{BodyKind}
use Rattle.http_head.specs.declared.body.BodyKind.TheVariants.{Missing, Length}
use Rattle.http_head.specs.declared.range.RangeWish.TheVariants.{All as AllOfIt}
use Rattle.http_client.specs.Request.{IsVisible, states_length, request_head}

-- A request that a server takes: its target is one, with escapes that are well-formed, its head is within the limit,
-- and it has a body only where its method states a length.
pub record CanBeSent (method : Method) (target host body : List ℕ) : Type 0 where
  pub some : 0 < length target
  pub target_seen : All IsVisible target
  pub host_seen : All IsVisible host
  pub escaped : IsTrue (is_well_escaped target)
  pub short : length (request_head method target host (length body)) ≤ 16384
  pub unstated : states_length method ≡ false → body ≡ []
  pub held : length body < 2 ^ 64

-- The body of so many bytes that such a head states.
abbrev pub sent_body : Method → ℕ → BodyKind
sent_body method count = if states_length method then Length count else Missing

-- What such a head is taken as.
abbrev pub sent_head : Method → List ℕ → ℕ → Head
sent_head method target count = record {
  method = method;
  path = path_of target;
  query = query_of target;
  body = sent_body method count;
  content_type = [];
  encoded = false;
  range = AllOfIt;
  close = true;
  expect = false;
}
