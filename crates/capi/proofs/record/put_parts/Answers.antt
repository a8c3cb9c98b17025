use Rattle.capi.specs.Records.{registers_of, ports_of, timers_of, counters_of, requests_of}
use Rattle.capi.proofs.Joining.{behind}
use Rattle.capi.proofs.record.put_parts.Goals as goal

pub returns-clause-bytes : goal.returns-clause-bytes
returns-clause-bytes c =
    let p = c.args.parts.now in
    behind c.args.out.now (registers_of p.registers) _ _ _ c.put_registers.ensures
    (behind c.put_registers.new.out p.memory.ram _ _ _ c.push.ensures
    (behind c.push.new.self (ports_of p.ports) _ _ _ c.put_ports.ensures
    (behind c.put_ports.new.out (timers_of p.timers) _ _ _ c.put_timers.ensures.bytes
    (behind c.put_timers.new.out (counters_of p.buzzer p.basic) _ _ _ c.put_counters.ensures
    (behind c.put_counters.new.out (requests_of p.requests) _ _ _ c.put_requests.ensures (rw c.letter.ensures at c.push-2.ensures))))))
