pub mod Schema
