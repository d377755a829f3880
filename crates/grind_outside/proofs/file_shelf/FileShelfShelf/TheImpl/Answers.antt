use Rattle.std.proofs.Common.{refl}
use Rattle.grind_outside.proofs.ShelfLemmas.{whole_untold, too_long_untold, counted_exactly}
use Rattle.grind_outside.proofs.file_shelf.FileShelfShelf.TheImpl.Goals as goal

pub read-tells : goal.read-tells
read-tells g c = record {
  whole = whole_untold c.result;
  within = c.ensures.within;
  too_long = too_long_untold c.result c.args.limit c.ensures.too_long;
  failed = counted_exactly c.result c.args.self.now.faults c.new.self.now.faults c.ensures.failed;
  quiet = c.ensures.quiet;
  never_falls = c.ensures.never_falls;
  keeps = λ any. refl;
}
