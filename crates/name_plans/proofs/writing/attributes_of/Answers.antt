use Rattle.name_core.specs.Plan.{seconds}
use Rattle.name_plans.proofs.writing.attributes_of.Goals as goal

pub returns : goal.returns
returns c = λ i. record {
  file_size = c.size_after.ensures c.args.time i;
  mtime = seconds c.args.time;
  mode = (c.in_ok-before.ensures i).mode;
  uid = (c.in_ok-before.ensures i).uid;
  gid = (c.in_ok-before.ensures i).gid;
  crtime = (c.in_ok-before.ensures i).crtime;
  mime = c.in_ok-mime_after.ensures c.args.time i;
  ttl_sec = (c.in_ok-before.ensures i).ttl_sec;
  md5 = c.digest_after.ensures c.args.time c.args.old.now i;
}
