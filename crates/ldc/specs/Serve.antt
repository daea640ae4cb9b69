-- Serving one request: refused by its number, in the order of the numbers, or done.
use Rattle.std.specs.Prelude.{ℕ, List, cond, eqb, length}
use Rattle.std.proofs.Math.Option.{some, none}
use Rattle.ldc.specs.Store.{Store}
use Rattle.ldc.specs.Request.{put_kind, delete_kind, look_up_kind, scan_kind, flush_kind, tidy_kind, probe_kind}
use Rattle.ldc.specs.Request.{unknown_kind, wrong_length, Request, Served}
use Rattle.ldc.specs.Request.{known, body_good, key_in, high_in, value_in, only}
use Rattle.ldc.specs.Memtable.{serve_put}
use Rattle.ldc.specs.Place.{serve_flush}
use Rattle.ldc.specs.Read.{serve_look_up, serve_scan, serve_report}
use Rattle.ldc.specs.Probe.{serve_probe}
use Rattle.ldc.specs.Steps.{serve_tidy}

-- A request of a known kind with a body of the right length.
unfoldable pub serve_kind : Store → (kind : ℕ) → (body : List ℕ) → Served
serve_kind s kind body =
    cond (eqb kind put_kind) (serve_put s (record { key = key_in body; value = some (value_in body) }))
    (cond (eqb kind delete_kind) (serve_put s (record { key = key_in body; value = none }))
    (cond (eqb kind look_up_kind) (serve_look_up s (key_in body))
    (cond (eqb kind scan_kind) (serve_scan s (key_in body) (high_in body))
    (cond (eqb kind flush_kind) (serve_flush s)
    (cond (eqb kind tidy_kind) (serve_tidy s)
    (cond (eqb kind probe_kind) (serve_probe s (key_in body))
    (serve_report s)))))))

-- 16 unknown kind, 17 body length wrong for the kind.
unfoldable pub serve : Store → Request → Served
serve s r =
    cond (known r.kind)
    (cond (body_good r.kind (length r.body)) (serve_kind s r.kind r.body) (only wrong_length s))
    (only unknown_kind s)
