use Rattle.rv32i.proofs.OwnBytes.{loads_its_bytes, stores_its_bytes}
use Rattle.rv32i.proofs.bytewise.accesses_are_bytewise.Goals as goal

pub returns : goal.returns
returns c = record { loads = loads_its_bytes; stores = stores_its_bytes }
