use Rattle.http_head.proofs.RequestLaws.{one_request, request_stays, whole_not_begun, whole_not_none, begun_not_none, none_stays, begun_before, opens_no_longer}
use Rattle.http_head.proofs.laws.requests_are_read_in_one_way.Goals as goal

pub returns : goal.returns
returns c = record {
  one = one_request;
  stays = request_stays;
  not_begun = whole_not_begun;
  not_none = whole_not_none;
  begun_or_none = begun_not_none;
  none_stays = none_stays;
  begun_before = begun_before;
  open_without_an_end = opens_no_longer;
}
