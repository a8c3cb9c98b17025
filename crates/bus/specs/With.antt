-- The parts with one of them changed.
use Rattle.recorder.specs.declared.mode.Mode.{Mode}
use Rattle.ports.specs.declared.request.Requests.{Requests}
use Rattle.cpu.specs.declared.registers.Registers.{Registers}
use Rattle.bus.specs.declared.parts.Parts.{Parts}

abbrev pub parts_with_registers : Parts → Registers → Parts
parts_with_registers s v = record s { registers = v }

abbrev pub parts_with_requests : Parts → Requests → Parts
parts_with_requests s v = record s { requests = v }

abbrev pub parts_with_mode : Parts → Mode → Parts
parts_with_mode s v = record s { mode = v }
