use Rattle.std.proofs.Common.{◌≡◌, ◌+◌, ◌*◌, ◌≤◌, ◌++◌, drop, length}
use Rattle.cf_report.specs.Picture.{requests_text}
use Rattle.order_report.proofs.beside.push_requests.Given as goal

-- what is written and the requests that are left make the whole text
abbrev pub invariant-loop-request : goal.invariant-loop-request
invariant-loop-request l = record {
  text : l.page ++ requests_text (drop l.request-index l.lane) ≡ l.initial.page ++ requests_text l.lane;
  size : length l.page ≤ length l.initial.page + 4 * l.request-index;
}
