-- One item after another is read.
use Rattle.order_keys.proofs.ListSteps.{read_first, read_more, read_all}
use Rattle.order_keys.proofs.lists.unpack_list.Goals as goal

pub loop-init : goal.loop-init
loop-init g c =
    read_first g.T.Pack.unpacked c.args.key.now c.unpack-count.result c.unpack-count.new.key c.clear.new.self.items
    c.unpack-count.ensures.value c.unpack-count.ensures.left c.clear.ensures.items

pub loop-preserved : goal.loop-preserved
loop-preserved g c =
    read_more g.T.Pack.unpacked c.unpack-count.result c.loop.counter c.loop.key c.unpack.new.key c.unpack.result c.loop.list.items c.push.new.self.items _
    c.loop-test.true c.unpack.ensures.value c.unpack.ensures.left c.in_ok-push.ensures.items c.loop.invariant

pub returns : goal.returns
returns g c =
    read_all g.T.Pack.unpacked c.unpack-count.result c.loop.counter c.loop.key c.loop.list.items _ c.loop-test.false c.loop.invariant
