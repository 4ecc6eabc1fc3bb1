-- A link, so that there are some links for whatever network: it stands where no channel leads.
use Rattle.std.proofs.Common.{false, [], refl, arith}
use denote.RawPtr.{null_ptr}
use Rattle.std.specs.declared.alloc.Global.{Global}
use Rattle.rtrb.specs.{declared.consumer.Consumer.Consumer, declared.producer.Producer.Producer}
use Rattle.station_rings.specs.{declared.parcel.Parcel.Parcel, LinkStates.LinkState, declared.rules.Rising.Rising}

some_producer : Global → Producer Parcel Global Rising
some_producer alloc = record {
  end = record {
    words = null_ptr;
    slots = null_ptr;
    marker = record {};
    names = (1, (0, 0));
    heap = alloc;
    role = 0;
    past = [];
    ahead = [];
    limit = 1;
  };
  alloc = alloc;
  capacity = 1;
  cached_head = _;
  cached_tail = _;
  writes = (refl, refl, refl, omega arith);
  counts = (omega arith, omega arith, omega arith);
  cached = (refl, refl);
}

some_consumer : Global → Consumer Parcel Global Rising
unfolding some_producer
some_consumer alloc =
    let other = (some_producer alloc).end in
    record {
      end = record other { role = 1 };
      alloc = alloc;
      capacity = 1;
      cached_head = _;
      cached_tail = _;
      reads = (refl, refl, refl, omega arith);
      counts = omega arith;
      cached = (refl, refl);
    }

-- the link, whatever memory it is of
pub some-link : Global → LinkState
some-link alloc = record {
  peer = record { 0 = 0 };
  used = false;
  sent = 0;
  standing = 0;
  out = some_producer alloc;
  backlog = [];
  into = some_consumer alloc;
  early = [];
}
