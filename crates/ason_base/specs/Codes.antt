-- The error codes by their names.
use Rattle.ason_base.specs.declared.codes.ErrCode.{ErrCode}

abbrev pub busy_code : ErrCode
busy_code = record { code = 1; value = 0x8001 }

abbrev pub full_code : ErrCode
full_code = record { code = 1; value = 0x8002 }

abbrev pub down_code : ErrCode
down_code = record { code = 1; value = 0x8003 }

abbrev pub torn_code : ErrCode
torn_code = record { code = 1; value = 0x8004 }

abbrev pub label_code : ErrCode
label_code = record { code = 24; value = 6 }

abbrev pub set_code : ErrCode
set_code = record { code = 24; value = 11 }

abbrev pub route_code : ErrCode
route_code = record { code = 24; value = 0x8001 }

abbrev pub primary_code : ErrCode
primary_code = record { code = 24; value = 0x8002 }

abbrev pub fibre_down_code : ErrCode
fibre_down_code = record { code = 25; value = 0x8001 }

abbrev pub fibre_up_code : ErrCode
fibre_up_code = record { code = 25; value = 0x8002 }
