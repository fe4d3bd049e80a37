pub mod KindsApart
pub mod RdataKeys
pub mod UsedRecords
pub mod ShownBoth
